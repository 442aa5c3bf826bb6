-- How many components and wires a text can have: no more than it has bytes.
use Rattle.std.proofs.Common.{◌≡◌, ℕ, zero, suc, ◌+◌, ◌≤◌, Bool, true, false, cond, List, [], ◌∷◌, ◌++◌, length, Option, Some, refl, sym, ap, subst, ◌∙◌, arith, inl, inr}
use Rattle.std.specs.Prelude.{codes, filter}
use Rattle.std.specs.List.{All, flat_map, AllByRecursion}
use Rattle.std.specs.Str.{bytes_eq}
use Rattle.std.proofs.lemmas.Bool.{cond-true, cond-false}
use Rattle.std.proofs.lemmas.List.{length-append}
use Rattle.std.proofs.lemmas.List.Elements.{All-nil, All-cons}
use Rattle.std.proofs.lemmas.Option.{same_Some}
use Rattle.lg_circ.specs.declared.element.Element.{Element}
use Rattle.lg_circ.specs.declared.project.Comp.{Comp}
use Rattle.lg_circ.specs.declared.project.Wire.{Wire}
use Rattle.lg_circ.specs.declared.project.Sheet.{Sheet}
use Rattle.lg_circ.specs.declared.project.Project.{Project}
use Rattle.lg_attrs.specs.Pairs.{value_under}
use Rattle.lg_circ.specs.Tree.{name_of, children_of, is_named, children_named, child_named, attribute}
use Rattle.lg_circ.specs.Grammar.{Piece, own, reference, comment, element, elements_of, spelling_of, IsInElement, SpellsElement, Spells}
use Rattle.lg_circ.specs.Meaning.{◌>>=◌, each, lib_of, comp_of, wire_of, sheet_of, options_of, is_error, limit_of}
use Rattle.lg_circ.specs.Project.{SaysProject}
use Rattle.lg_circ.proofs.Marks.{bind_some, same_bytes}
use Rattle.lg_circ.proofs.Made.{all_weaker}
use Rattle.lg_circ.proofs.Elements.{piece_any, spells_begins}

-- an element has a byte
element_long : (e : Element) (b : List ℕ) → Spells e b → 1 ≤ length b
element_long e b s = let o = spells_begins e b s in omega (arith, ap (λ (t : List ℕ). length t) o.2)

-- as many elements as bytes fit inside
content_fits : (ps : List Piece) → AllByRecursion (IsInElement Spells) ps → length (flat_map elements_of ps) ≤ length (flat_map spelling_of ps)
content_fits [] all = omega arith
content_fits (own c ∷ ps) all = let more = content_fits ps all.1 in omega (arith, more)
content_fits (reference name ∷ ps) all = let more = content_fits ps all.1 in let long = length-append (codes "&" ++ name ++ codes ";") (flat_map spelling_of ps) in omega (arith, more, long)
content_fits (comment inside ∷ ps) all = let more = content_fits ps all.1 in let long = length-append (codes "<!--" ++ inside ++ codes "-->") (flat_map spelling_of ps) in omega (arith, more, long)
content_fits (element e b ∷ ps) all =
    let first = element_long e b all.0 in
    let more = content_fits ps all.1 in
    omega (arith, first, more, length-append b (flat_map spelling_of ps))

-- an element with what stands inside
record HasInside (e : Element) (bytes : List ℕ) : Type 0 where
  pub pieces : List Piece
  pub allowed : AllByRecursion (IsInElement Spells) pieces
  pub are : children_of e ≡ flat_map elements_of pieces
  pub fits : length (flat_map spelling_of pieces) ≤ length bytes

inside_of : (e : Element) (bytes : List ℕ) → Spells e bytes → HasInside e bytes
unfolding SpellsElement
inside_of e bytes s = by_level s.0 s.1
  where
    by_level : (l : ℕ) → SpellsElement l e bytes → HasInside e bytes
    by_level zero s = absurd s
    by_level (suc l) s =
        elim s.4 as (λ _. HasInside e bytes) [
          | inl a ↦ record { pieces = []; allowed = tt; are = a.no_children; fits = omega arith }
          | inr b ↦
              let m = b.inside in
              let whole = simp length-append at (ap (λ (t : List ℕ). length t) b.spelled) in
              let long : length b.content ≡ length (flat_map spelling_of m.pieces) = ap (λ (t : List ℕ). length t) m.spelled in
              record {
                pieces = m.pieces;
                allowed = all_weaker (IsInElement (SpellsElement l)) (IsInElement Spells) (piece_any l) m.pieces m.allowed;
                are = m.elements_are;
                fits = omega (arith, whole, long);
              }
        ]

each_fits : {A B : Type 0} (f : A → Option B) (xs : List A) (ys : List B) → each f xs ≡ Some ys → length ys ≡ length xs
each_fits f [] ys e = sym (ap length (same_Some [] ys e))
each_fits f (x ∷ xs) ys e =
    let a = bind_some (f x) (λ y. each f xs >>= λ others. Some (y ∷ others)) ys e in
    let b = bind_some (each f xs) (λ others. Some (a.0 ∷ others)) ys a.2 in
    omega (arith, ap length (same_Some (a.0 ∷ b.0) ys b.2), each_fits f xs b.0 b.1)

-- one more item, and two counts of which at most one goes up
one_more : (name other : List ℕ) → bytes_eq name other ≡ false → (e : Element) (es xs ys : List Element) (a b : Bool) → is_named name e ≡ a → is_named other e ≡ b → length xs + length ys ≤ length es
    → length (cond a (e ∷ xs) xs) + length (cond b (e ∷ ys) ys) ≤ length (e ∷ es)
one_more name other differ e es xs ys true true h k few = let same = sym (ap (λ (n : List ℕ). bytes_eq n other) (same_bytes (name_of e) name h)) ∙ k in absurd cc
one_more name other differ e es xs ys true false h k few = omega (arith, few)
one_more name other differ e es xs ys false true h k few = omega (arith, few)
one_more name other differ e es xs ys false false h k few = omega (arith, few)

-- items of two names are no more than all
two_names : (name other : List ℕ) → bytes_eq name other ≡ false → (es : List Element) → length (filter (is_named name) es) + length (filter (is_named other) es) ≤ length es
two_names name other differ [] = omega arith
two_names name other differ (e ∷ es) =
    one_more name other differ e es (filter (is_named name) es) (filter (is_named other) es) (is_named name e) (is_named other e) refl refl (two_names name other differ es)

-- so many components and wires are in a sheet at most
abbrev pub IsFew : ℕ → Sheet → Type 0
IsFew most sheet = length sheet.comps + length sheet.wires ≤ most

sheet_few : (e : Element) (sheet : Sheet) → sheet_of e ≡ Some sheet → IsFew (length (children_of e)) sheet
sheet_few e sheet h =
    let made : List ℕ → List Comp → List Wire → Sheet = λ name comps wires. record { name = name; comps = comps; wires = wires } in
    let a = bind_some (attribute (codes "name") e) (λ name. each comp_of (children_named (codes "comp") e) >>= λ comps. each wire_of (children_named (codes "wire") e) >>= λ wires. Some (made name comps wires)) sheet h in
    let b = bind_some (each comp_of (children_named (codes "comp") e)) (λ comps. each wire_of (children_named (codes "wire") e) >>= λ wires. Some (made a.0 comps wires)) sheet a.2 in
    let c = bind_some (each wire_of (children_named (codes "wire") e)) (λ wires. Some (made a.0 b.0 wires)) sheet b.2 in
    let comps = each_fits comp_of (children_named (codes "comp") e) b.0 b.1 in
    let wires = each_fits wire_of (children_named (codes "wire") e) c.0 c.1 in
    let both = two_names (codes "comp") (codes "wire") refl (children_of e) in
    subst (λ (s : Sheet). IsFew (length (children_of e)) s) (same_Some (made a.0 b.0 c.0) sheet c.2) (omega (arith, comps, wires, both))

circuit_few : (e : Element) (bytes : List ℕ) (sheet : Sheet) → Spells e bytes → sheet_of e ≡ Some sheet → IsFew (length bytes) sheet
circuit_few e bytes sheet s h =
    let i = inside_of e bytes s in
    let same : length (children_of e) ≡ length (flat_map elements_of i.pieces) = ap (λ (es : List Element). length es) i.are in
    omega (arith, sheet_few e sheet h, same, content_fits i.pieces i.allowed, i.fits)

-- what is so of each sheet after one element, is so of each from it on
more_few : (most : ℕ) (e : Element) (es : List Element) (sheets : List Sheet) (b : Bool) → is_named (codes "circuit") e ≡ b → ((sheet : Sheet) → sheet_of e ≡ Some sheet → IsFew most sheet)
    → ((more : List Sheet) → each sheet_of (filter (is_named (codes "circuit")) es) ≡ Some more → All (IsFew most) more)
    → each sheet_of (filter (is_named (codes "circuit")) (e ∷ es)) ≡ Some sheets → All (IsFew most) sheets
more_few most e es sheets true k mine others h =
    let named = sym (ap (each sheet_of) (cond-true (is_named (codes "circuit") e) (e ∷ filter (is_named (codes "circuit")) es) (filter (is_named (codes "circuit")) es) k)) ∙ h in
    let a = bind_some (sheet_of e) (λ y. each sheet_of (filter (is_named (codes "circuit")) es) >>= λ ys. Some (y ∷ ys)) sheets named in
    let c = bind_some (each sheet_of (filter (is_named (codes "circuit")) es)) (λ ys. Some (a.0 ∷ ys)) sheets a.2 in
    subst (All (IsFew most)) (same_Some (a.0 ∷ c.0) sheets c.2) (All-cons (IsFew most) a.0 c.0 (mine a.0 a.1) (others c.0 c.1))
more_few most e es sheets false k mine others h =
    others sheets (sym (ap (each sheet_of) (cond-false (is_named (codes "circuit") e) (e ∷ filter (is_named (codes "circuit")) es) (filter (is_named (codes "circuit")) es) k)) ∙ h)

abbrev circuits : List Piece → List Element
circuits ps = filter (is_named (codes "circuit")) (flat_map elements_of ps)

sheets_few : (most : ℕ) (ps : List Piece) (sheets : List Sheet) → AllByRecursion (IsInElement Spells) ps → length (flat_map spelling_of ps) ≤ most → each sheet_of (circuits ps) ≡ Some sheets → All (IsFew most) sheets
sheets_few most [] sheets all fits h = subst (All (IsFew most)) (same_Some [] sheets h) (All-nil (IsFew most))
sheets_few most (own c ∷ ps) sheets all fits h = sheets_few most ps sheets all.1 (omega (arith, fits)) h
sheets_few most (reference name ∷ ps) sheets all fits h = sheets_few most ps sheets all.1 (let long = length-append (codes "&" ++ name ++ codes ";") (flat_map spelling_of ps) in omega (arith, fits, long)) h
sheets_few most (comment inside ∷ ps) sheets all fits h = sheets_few most ps sheets all.1 (let long = length-append (codes "<!--" ++ inside ++ codes "-->") (flat_map spelling_of ps) in omega (arith, fits, long)) h
sheets_few most (element e b ∷ ps) sheets all fits h =
    let long = length-append b (flat_map spelling_of ps) in
    more_few most e (flat_map elements_of ps) sheets (is_named (codes "circuit") e) refl (λ sheet k. omega (arith, circuit_few e b sheet all.0 k, long, fits)) (λ more k. sheets_few most ps more all.1 (omega (arith, long, fits)) k) h

-- a project has no more components and wires in a sheet than its text has bytes
pub project_few : (bytes : List ℕ) (project : Project) → SaysProject bytes project → All (IsFew (length bytes)) project.sheets
project_few bytes project is =
    let root = is.root in
    let made : List (List ℕ × List ℕ) → List (List ℕ × List ℕ) → List Sheet → Project = λ libs options sheets. record {
      libs = libs;
      main = child_named (codes "main") root >>= attribute (codes "name");
      strict = is_error (value_under (codes "gateUndefined") options);
      limit = (limit_of (value_under (codes "simlimit") options)).0;
      limit_in_range = (limit_of (value_under (codes "simlimit") options)).1;
      sheets = sheets;
    } in
    let a = bind_some (each lib_of (children_named (codes "lib") root)) (λ libs. options_of (child_named (codes "options") root) >>= λ options. each sheet_of (children_named (codes "circuit") root) >>= λ sheets. Some (made libs options sheets)) project is.meaning in
    let b = bind_some (options_of (child_named (codes "options") root)) (λ options. each sheet_of (children_named (codes "circuit") root) >>= λ sheets. Some (made a.0 options sheets)) project a.2 in
    let c = bind_some (each sheet_of (children_named (codes "circuit") root)) (λ sheets. Some (made a.0 b.0 sheets)) project b.2 in
    let i = inside_of root is.text.inside is.text.element in
    let parts = simp length-append at (ap (λ (t : List ℕ). length t) is.text.spelled) in
    let named = ap (λ (es : List Element). each sheet_of (filter (is_named (codes "circuit")) es)) (sym i.are) ∙ c.1 in
    let found = sheets_few (length bytes) i.pieces c.0 i.allowed (omega (arith, i.fits, parts)) named in
    subst (λ (p : Project). All (IsFew (length bytes)) p.sheets) (same_Some (made a.0 b.0 c.0) project c.2) found
