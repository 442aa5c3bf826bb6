-- The levels of the tree that is grown.
use Rattle.std.proofs.Common.{◌≡◌, ℕ, zero, suc, ◌+◌, ◌-◌, ◌<◌, ◌≤◌, Bool, true, false, List, [], ◌∷◌, ◌++◌, length, Some, refl, sym, ap, subst, ◌∙◌, arith, inl, inr, ◌⊎◌}
use Rattle.std.specs.Prelude.{IsTrue, nat_le}
use Rattle.std.specs.Str.{bytes_eq}
use Rattle.std.specs.List.{list_all, flat_map}
use Rattle.std.proofs.lemmas.Bool.{and_parts, and_from, cases_Bool, false≢true}
use Rattle.std.proofs.lemmas.Bool.Decides.{nat_tests}
use Rattle.std.proofs.lemmas.List.Folds.{list_all-append}
use Rattle.std.proofs.lemmas.Option.{same_Some}
use Rattle.lg_circ.specs.declared.element.Element.{Element}
use Rattle.lg_circ.specs.Tree.{name_of, attributes_of, text_of, children_of, has_levels, greatest_level}
use Rattle.lg_circ.specs.Grammar.{Piece, characters_of, elements_of}
use Rattle.lg_circ.specs.Reading.{Token, nothing, stands, starts, ends, bare, with_text, with_child, Next, goes, whole, deep, closed, moves, is_deep}
use Rattle.lg_circ.specs.Grown.{filled, Closed}
use Rattle.lg_circ.proofs.Marks.{guard_some}
use Rattle.lg_circ.proofs.Parts.{children_made}
use Rattle.lg_circ.proofs.Tokens.{Means}

-- the elements inside each open element have few enough levels, the innermost open element first
abbrev pub FitAll : List Element → Type 0
FitAll [] = Unit {0}
FitAll (e ∷ around) = IsTrue (list_all (has_levels (63 - length around)) (children_of e)) × FitAll around

-- and there are few enough of them
pub record Fits (top : Element) (around : List Element) : Type 0 where
  pub all : FitAll (top ∷ around)
  pub few : length around ≤ 63

-- what a step leaves fits
abbrev pub NextFits : Next → Type 0
NextFits (goes top around) = Fits top around
NextFits (whole e) = IsTrue (has_levels greatest_level e)
NextFits deep = Unit {0}

bare_inside : (p : Element → Bool) (name : List ℕ) (attributes : List (List ℕ × List ℕ)) → list_all p (children_of (bare name attributes)) ≡ true
bare_inside p name attributes = ap (λ (es : List Element). list_all p es) (children_made name attributes [] [])

text_inside : (p : Element → Bool) (e : Element) (text : List ℕ) → list_all p (children_of e) ≡ true → list_all p (children_of (with_text e text)) ≡ true
text_inside p e text h = ap (λ (es : List Element). list_all p es) (children_made (name_of e) (attributes_of e) (text_of e ++ text) (children_of e)) ∙ h

child_inside : (p : Element → Bool) (e child : Element) → list_all p (children_of e) ≡ true → p child ≡ true → list_all p (children_of (with_child e child)) ≡ true
child_inside p e child h k =
    ap (λ (es : List Element). list_all p es) (children_made (name_of e) (attributes_of e) (text_of e) (children_of e ++ child ∷ []))
    ∙ list_all-append p (children_of e) (child ∷ []) ∙ and_from (list_all p (children_of e)) (list_all p (child ∷ [])) h (and_from (p child) true k refl)

pub text_fits : (top : Element) (around : List Element) (text : List ℕ) → Fits top around → Fits (with_text top text) around
text_fits top around text f = record { all = (text_inside (has_levels (63 - length around)) top text f.all.0, f.all.1); few = f.few }

pub bare_levels : (k : ℕ) (name : List ℕ) (attributes : List (List ℕ × List ℕ)) → 0 < k → has_levels k (bare name attributes) ≡ true
unfolding has_levels
bare_levels zero name attributes lt = absurd (omega (arith, lt))
bare_levels (suc k) name attributes lt = bare_inside (has_levels k) name attributes

whole_levels : (k n : ℕ) (e : Element) → n ≡ suc k → list_all (has_levels k) (children_of e) ≡ true → has_levels n e ≡ true
unfolding has_levels
whole_levels k n e same h = ap (λ (m : ℕ). has_levels m e) same ∙ h

closed_fits : (top : Element) (around : List Element) → Fits top around → NextFits (closed top around)
closed_fits top [] f = whole_levels 63 64 top refl f.all.0
closed_fits top (outer ∷ around) f = record {
  all = (child_inside (has_levels (63 - length around)) outer top f.all.1.0 (whole_levels (63 - suc (length around)) (63 - length around) top (omega (arith, f.few)) f.all.0), f.all.1.1);
  few = omega (arith, f.few);
}

shallow : (n : ℕ) → nat_le greatest_level (suc n) ≡ false → n < 63
shallow n h = grind (arith, nat_tests)

pub moves_fit : (top : Element) (around : List Element) (token : Token) (next : Next) → Fits top around → is_deep around token ≡ false → moves top around token ≡ Some next → NextFits next
moves_fit top around nothing next f d e = subst NextFits (same_Some (goes top around) next e) f
moves_fit top around (stands name attributes) next f d e =
    let lt = shallow (length around) d in
    subst NextFits (same_Some (goes (with_child top (bare name attributes)) around) next e)
    (record { all = (child_inside (has_levels (63 - length around)) top (bare name attributes) f.all.0 (bare_levels (63 - length around) name attributes (omega (arith, lt))), f.all.1); few = f.few })
moves_fit top around (starts name attributes) next f d e =
    let lt = shallow (length around) d in
    subst NextFits (same_Some (goes (bare name attributes) (top ∷ around)) next e)
    (record { all = (bare_inside (has_levels (63 - suc (length around))) name attributes, f.all); few = omega (arith, lt) })
moves_fit top around (ends name) next f d e =
    let g = guard_some (bytes_eq name (name_of top)) (Some (closed top around)) next e in
    subst NextFits (same_Some (closed top around) next g.1) (closed_fits top around f)

-- an element with one inside that is too deep
inner_deep : (k : ℕ) (e child : Element) (ps : List Piece) → has_levels k child ≡ false → has_levels (suc k) (filled (with_child e child) ps) ≡ false
unfolding has_levels
inner_deep k e child ps h =
    let inner = children_of e ++ child ∷ [] in
    let are : children_of (filled (with_child e child) ps) ≡ inner ++ flat_map elements_of ps =
    children_made (name_of (with_child e child)) (attributes_of (with_child e child)) (text_of (with_child e child) ++ flat_map characters_of ps) (children_of (with_child e child) ++ flat_map elements_of ps)
    ∙ ap (λ (es : List Element). es ++ flat_map elements_of ps) (children_made (name_of e) (attributes_of e) (text_of e) inner) in
    ap (λ (es : List Element). list_all (has_levels k) es) are ∙ not_all (cases_Bool (list_all (has_levels k) (inner ++ flat_map elements_of ps)))
  where
    not_all : (list_all (has_levels k) ((children_of e ++ child ∷ []) ++ flat_map elements_of ps) ≡ true) ⊎ (list_all (has_levels k) ((children_of e ++ child ∷ []) ++ flat_map elements_of ps) ≡ false)
        → list_all (has_levels k) ((children_of e ++ child ∷ []) ++ flat_map elements_of ps) ≡ false
    not_all (inr f) = f
    not_all (inl t) =
        let p = has_levels k in
        let a = and_parts (list_all p (children_of e ++ child ∷ [])) (list_all p (flat_map elements_of ps)) (sym (list_all-append p (children_of e ++ child ∷ []) (flat_map elements_of ps)) ∙ t) in
        let b = and_parts (list_all p (children_of e)) (list_all p (child ∷ [])) (sym (list_all-append p (children_of e) (child ∷ [])) ∙ a.0) in
        let c = and_parts (p child) true b.1 in
        absurd (false≢true (sym h ∙ c.0))

-- a root around an element that is too deep
closed_deep : (k : ℕ) (around : List Element) (root e : Element) (after : List ℕ) → has_levels k e ≡ false → Closed around root e after → has_levels (k + length around) root ≡ false
closed_deep k [] root e after h c = let same : k + 0 ≡ k = omega arith in ap (λ (m : ℕ). has_levels m root) same ∙ ap (has_levels k) c.0 ∙ h
closed_deep k (outer ∷ around) root e after h i =
    let more = closed_deep (suc k) around root (filled (with_child outer e) i.pieces) i.after (inner_deep k outer e i.pieces h) i.goes_on in
    let same : k + suc (length around) ≡ suc k + length around = omega arith in
    ap (λ (m : ℕ). has_levels m root) same ∙ more

no_levels : (e : Element) → has_levels 0 e ≡ false
unfolding has_levels
no_levels e = refl

too_deep : (n : ℕ) → nat_le greatest_level (suc n) ≡ true → 63 ≤ n
too_deep n h = grind (arith, nat_tests)

-- each root of a text that goes too deep is too deep
pub means_deep : (top : Element) (around : List Element) (token : Token) (rest : List ℕ) (root : Element) → length around ≤ 63 → is_deep around token ≡ true → Means (Closed around root) top token rest → has_levels greatest_level root ≡ false
means_deep top around nothing rest root few d m = absurd (false≢true d)
means_deep top around (ends name) rest root few d m = absurd (false≢true d)
means_deep top around (stands name attributes) rest root few d m =
    let least = too_deep (length around) d in
    let same : 0 + suc (length around) ≡ 64 = omega (arith, few, least) in
    ap (λ (n : ℕ). has_levels n root) (sym same) ∙ closed_deep 0 (top ∷ around) root (bare name attributes) rest (no_levels (bare name attributes)) m
means_deep top around (starts name attributes) rest root few d m =
    let least = too_deep (length around) d in
    let same : 0 + suc (length around) ≡ 64 = omega (arith, few, least) in
    ap (λ (n : ℕ). has_levels n root) (sym same) ∙ closed_deep 0 (top ∷ around) root (filled (bare name attributes) m.pieces) m.after (no_levels (filled (bare name attributes) m.pieces)) m.goes_on
