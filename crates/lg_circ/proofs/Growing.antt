-- The loop that grows a tree, and the one that follows names.
use Rattle.std.proofs.Common.{◌≡◌, ℕ, ◌<◌, Bool, true, false, cond, eqb, List, [], ◌∷◌, ◌++◌, length, Option, Some, None, Result, Ok, Err, Bor, refl, sym, ap, subst, ◌∙◌, arith, inl, inr}
use Rattle.std.specs.Prelude.{IsTrue, not, map, reverse, option_and_then}
use Rattle.std.specs.List.{list_all}
use Rattle.std.specs.Str.{IsUtf8, bytes_eq}
use Rattle.std.proofs.lemmas.Bool.{eqb-true}
use Rattle.std.proofs.lemmas.Bool.Decides.{nat_tests}
use Rattle.std.proofs.lemmas.Option.{same_Some, none-some}
use Rattle.std.proofs.lemmas.List.{reverse-append, map-append, length-reverse, length-map, nil_from_length}
use Rattle.lg_circ.specs.declared.element.Element.{Element}
use Rattle.lg_circ.specs.declared.fault.CircFault.{CircFault}
use Rattle.lg_circ.specs.declared.fault.CircFault.TheVariants.{TooLong, TooDeep, NotProject, Memory}
use Rattle.lg_circ.specs.Tree.{name_of, children_of, has_levels, greatest_level}
use Rattle.lg_circ.specs.Grammar.{SpellsText}
use Rattle.lg_circ.specs.Meaning.{◌>>=◌}
use Rattle.lg_circ.specs.Reading.{Fails, event_at, with_text, Token, ends, Next, goes, whole, deep, moves, is_deep, step_at, next_at, names_after, names_at, root_at}
use Rattle.lg_circ.specs.Seen.{view_names}
use Rattle.lg_circ.specs.Grown.{Closed, Completes, Stands, Reaches, Makes, Judges}
use Rattle.lg_circ.specs.Project.{IsTooDeep}
use Rattle.lg_circ.proofs.Marks.{bind_some}
use Rattle.lg_circ.proofs.Pieces.{chosen}
use Rattle.lg_circ.proofs.Steps.{seen_as, moves_to, moves_reach, moves_fail, event_fails, event_shorter}
use Rattle.lg_circ.proofs.Levels.{Fits, NextFits, text_fits, moves_fit, means_deep}
use Rattle.lg_circ.proofs.Names.{Follows, names_fail, follows_end}
use Rattle.lg_circ.proofs.Roots.{Root, root_seen, root_means}

-- how far a tree was grown
pub record Grows (IsRoot : Element → Type 0) (top : Element) (around : List Element) (bytes : List ℕ) : Type 0 where
  pub fits : Fits top around
  pub reaches : Reaches IsRoot (goes top around) bytes

pub grows_start : (root : Element) (around : List Element) (bytes : List ℕ) → children_of root ≡ [] → around ≡ [] → Grows (Completes root [] bytes) root around bytes
grows_start root around bytes none e =
    let here : Grows (Completes root [] bytes) root [] bytes = record {
      fits = record { all = (ap (λ (es : List Element). list_all (has_levels 63) es) none, tt); few = omega arith };
      reaches = record { to = λ r h. h; from = λ r h. h };
    } in
    subst (λ (a : List Element). Grows (Completes root [] bytes) root a bytes) (sym e) here

abbrev Event : Type 0
Event = List ℕ × Token × List ℕ

-- the event of a step, and what the step does
record StepsTo (top : Element) (around : List Element) (bytes : List ℕ) (next : Next) (rest : List ℕ) : Type 0 where
  event : List ℕ × Token × List ℕ
  read : event_at bytes ≡ Some event
  step : step_at (with_text top event.0) around event.1 ≡ Some next
  same : event.2 ≡ rest

abbrev with_rest : List ℕ → Next → Option (Next × List ℕ)
with_rest rest next = Some (next, rest)

abbrev onward : Element → List Element → List ℕ × Token × List ℕ → Option (Next × List ℕ)
onward top around event = step_at (with_text top event.0) around event.1 >>= λ next. Some (next, event.2)

next_steps : (top : Element) (around : List Element) (bytes : List ℕ) (next : Next) (rest : List ℕ) → next_at top around bytes ≡ Some (next, rest) → StepsTo top around bytes next rest
unfolding next_at
next_steps top around bytes next rest e =
    let a = bind_some (event_at bytes) (onward top around) (next, rest) e in
    let b = bind_some (step_at (with_text top a.0.0) around a.0.1) (λ n. Some (n, a.0.2)) (next, rest) a.2 in
    let same = same_Some (b.0, a.0.2) (next, rest) b.2 in
    record { event = a.0; read = a.1; step = b.1 ∙ ap (λ (x : Next × List ℕ). Some x.0) same; same = ap (λ (x : Next × List ℕ). x.1) same }

pub next_shorter : (top : Element) (around : List Element) (bytes : List ℕ) (next : Next) (rest : List ℕ) → next_at top around bytes ≡ Some (next, rest) → length rest < length bytes
next_shorter top around bytes next rest e = let s = next_steps top around bytes next rest e in subst (λ (r : List ℕ). length r < length bytes) s.same (event_shorter bytes s.event s.read)

-- what is so of a step that is not too deep
not_deep : (IsRoot : Element → Type 0) (top : Element) (around : List Element) (bytes : List ℕ) (next : Next) (rest : List ℕ) → next_at top around bytes ≡ Some (next, rest) → (deep ≡ next → ⊥) → Grows IsRoot top around bytes → NextFits next × Reaches IsRoot next rest
not_deep IsRoot top around bytes next rest e other g =
    let s = next_steps top around bytes next rest e in
    let x = s.event in
    elim (chosen (is_deep around x.1) (Some deep) (moves (with_text top x.0) around x.1) (Some next) s.step) [
      | inl w ↦ absurd (other (same_Some deep next w.1))
      | inr w ↦ (moves_fit (with_text top x.0) around x.1 next (text_fits top around x.0 g.fits) w.0 w.1, subst (Reaches IsRoot next) s.same (moves_reach IsRoot top around bytes x next s.read w.1 g.reaches))
    ]

pub grows_on : (IsRoot : Element → Type 0) (top : Element) (around : List Element) (bytes : List ℕ) (t : Element) (a : List Element) (rest : List ℕ) → next_at top around bytes ≡ Some (goes t a, rest) → Grows IsRoot top around bytes → Grows IsRoot t a rest
grows_on IsRoot top around bytes t a rest e g = let n = not_deep IsRoot top around bytes (goes t a) rest e (λ k. cc) g in record { fits = n.0; reaches = n.1 }

pub grows_whole : (IsRoot : Element → Type 0) (top : Element) (around : List Element) (bytes : List ℕ) (root : Element) (rest : List ℕ) → next_at top around bytes ≡ Some (whole root, rest) → Grows IsRoot top around bytes
    → IsTrue (has_levels greatest_level root) × Reaches IsRoot (whole root) rest
grows_whole IsRoot top around bytes root rest e g = not_deep IsRoot top around bytes (whole root) rest e (λ k. cc) g

pub grows_deep : (IsRoot : Element → Type 0) (top : Element) (around : List Element) (bytes rest : List ℕ) → next_at top around bytes ≡ Some (deep, rest) → Grows IsRoot top around bytes → (root : Element) → IsRoot root → has_levels greatest_level root ≡ false
grows_deep IsRoot top around bytes rest e g root is =
    let s = next_steps top around bytes deep rest e in
    let x = s.event in
    let m = seen_as (Closed around root) top bytes x s.read (g.reaches.to root is) in
    elim (chosen (is_deep around x.1) (Some deep) (moves (with_text top x.0) around x.1) (Some deep) s.step) [
      | inl w ↦ means_deep (with_text top x.0) around x.1 x.2 root g.fits.few w.0 m
      | inr w ↦ absurd (moves_to (with_text top x.0) around x.1 x.2 root deep w.1 m)
    ]

grows_fails : (IsRoot : Element → Type 0) (top : Element) (around : List Element) (bytes : List ℕ) → next_at top around bytes ≡ None → Grows IsRoot top around bytes → (root : Element) → IsRoot root → ⊥
unfolding next_at
grows_fails IsRoot top around bytes e g = by_event (event_at bytes) refl e
  where
    no_step : (o : Option Next) (rest : List ℕ) → option_and_then (with_rest rest) o ≡ None → o ≡ None
    no_step None rest e = refl
    no_step (Some n) rest e = absurd cc

    no_move : (b : Bool) (o : Option Next) → cond b (Some deep) o ≡ None → o ≡ None
    no_move true o e = absurd cc
    no_move false o e = e

    by_event : (o : Option (List ℕ × Token × List ℕ)) → event_at bytes ≡ o → (o >>= onward top around) ≡ None → (root : Element) → IsRoot root → ⊥
    by_event None k e = event_fails IsRoot top around bytes k g.reaches
    by_event (Some x) k e =
        moves_fail IsRoot top around bytes x k (no_move (is_deep around x.1) (moves (with_text top x.0) around x.1) (no_step (step_at (with_text top x.0) around x.1) x.2 e)) g.reaches

pub grows_not : (IsRoot : Element → Type 0) (top : Element) (around : List Element) (bytes : List ℕ) (fault : CircFault) → Fails fault (next_at top around bytes) → Grows IsRoot top around bytes → Makes IsRoot (Err fault)
grows_not IsRoot top around bytes Memory f g = tt
grows_not IsRoot top around bytes TooLong f g = absurd f
grows_not IsRoot top around bytes TooDeep f g = absurd f
grows_not IsRoot top around bytes NotProject f g = grows_fails IsRoot top around bytes f g

-- the same roots
pub makes_same : (A B : Element → Type 0) (result : Result Element CircFault) → ((root : Element) → A root → B root) → ((root : Element) → B root → A root) → Makes A result → Makes B result
makes_same A B (Ok e) to from h = (to e h.0, h.1)
makes_same A B (Err TooDeep) to from h = λ root is. h root (from root is)
makes_same A B (Err NotProject) to from h = λ root is. h root (from root is)
makes_same A B (Err Memory) to from h = tt
makes_same A B (Err TooLong) to from h = absurd h

pub judges_same : (A B : Element → Type 0) (result : Result (Unit {0}) CircFault) → ((root : Element) → A root → B root) → ((root : Element) → B root → A root) → Judges A result → Judges B result
judges_same A B (Ok u) to from h = (h.0, to h.0 h.1)
judges_same A B (Err TooDeep) to from h = absurd h
judges_same A B (Err NotProject) to from h = λ root is. h root (from root is)
judges_same A B (Err Memory) to from h = tt
judges_same A B (Err TooLong) to from h = absurd h

-- the roots of a text are those with which its first token goes on
pub root_to : (bytes : List ℕ) (x : Token × List ℕ) (root : Element) → root_at bytes ≡ Some x → SpellsText root bytes → Root x.0 x.1 root
root_to bytes x root e s = let y = root_seen root bytes s in subst (λ (z : Token × List ℕ). Root z.0 z.1 root) (same_Some (y.token, y.rest) x (sym y.read ∙ e)) y.means

pub text_makes : (bytes : List ℕ) (x : Token × List ℕ) (result : Result Element CircFault) → IsUtf8 bytes → root_at bytes ≡ Some x → Makes (Root x.0 x.1) result → Makes (λ root. SpellsText root bytes) result
text_makes bytes x result u e h = makes_same (Root x.0 x.1) (λ root. SpellsText root bytes) result (λ root m. root_means root bytes x u e m) (λ root s. root_to bytes x root e s) h

pub text_judges : (bytes : List ℕ) (x : Token × List ℕ) (result : Result (Unit {0}) CircFault) → IsUtf8 bytes → root_at bytes ≡ Some x → Judges (Root x.0 x.1) result → Judges (λ root. SpellsText root bytes) result
text_judges bytes x result u e h = judges_same (Root x.0 x.1) (λ root. SpellsText root bytes) result (λ root m. root_means root bytes x u e m) (λ root s. root_to bytes x root e s) h

-- where no root is read there is none
pub text_fails : (bytes : List ℕ) (fault : CircFault) → Fails fault (root_at bytes) → Makes (λ root. SpellsText root bytes) (Err fault)
text_fails bytes Memory f = tt
text_fails bytes TooLong f = absurd f
text_fails bytes TooDeep f = absurd f
text_fails bytes NotProject f = λ root s. let y = root_seen root bytes s in none-some (y.token, y.rest) (sym f ∙ y.read)

pub judge_fails : (bytes : List ℕ) (fault : CircFault) → Fails fault (root_at bytes) → Judges (λ root. SpellsText root bytes) (Err fault)
judge_fails bytes Memory f = tt
judge_fails bytes TooLong f = absurd f
judge_fails bytes TooDeep f = absurd f
judge_fails bytes NotProject f = λ root s. let y = root_seen root bytes s in none-some (y.token, y.rest) (sym f ∙ y.read)

-- the names of open elements, when the last was taken
pub names_popped : (old new : List (Bor (List ℕ))) (last : Bor (List ℕ)) → old ≡ new ++ last ∷ [] → view_names old ≡ last.now ∷ view_names new
names_popped old new last e =
    let now : Bor (List ℕ) → List ℕ = λ n. n.now in
    ap view_names e ∙ ap (λ (ns : List (List ℕ)). reverse ns) (map-append now new (last ∷ [])) ∙ reverse-append (map now new) (last.now ∷ [])

pub closes : (names more : List (List ℕ)) (last name : List ℕ) → names ≡ last ∷ more → bytes_eq name last ≡ true → names_after names (ends name) ≡ Some more
closes names more last name e h = ap (λ (ns : List (List ℕ)). names_after ns (ends name)) e ∙ ap (λ (b : Bool). cond b (Some more) None) h

pub closes_not : (names more : List (List ℕ)) (last name : List ℕ) → names ≡ last ∷ more → bytes_eq name last ≡ false → names_after names (ends name) ≡ None
closes_not names more last name e h = ap (λ (ns : List (List ℕ)). names_after ns (ends name)) e ∙ ap (λ (b : Bool). cond b (Some more) None) h

-- how far the names of a text were followed
pub follows_start : (top : Element) (name inside : List ℕ) (names : List (List ℕ)) → name_of top ≡ name → names ≡ name ∷ [] → Follows (Completes top [] inside) names inside
follows_start top name inside names called e = record { next = goes top []; are = e ∙ ap (λ (n : List ℕ). n ∷ []) (sym called); reaches = record { to = λ r h. h; from = λ r h. h } }

pub follows_not : (IsRoot : Element → Type 0) (names : List (List ℕ)) (bytes : List ℕ) (fault : CircFault) → 0 < length names → Fails fault (names_at names bytes) → Follows IsRoot names bytes → Judges IsRoot (Err fault)
follows_not IsRoot names bytes Memory some f g = tt
follows_not IsRoot names bytes TooLong some f g = absurd f
follows_not IsRoot names bytes TooDeep some f g = absurd f
follows_not IsRoot names bytes NotProject some f g = names_fail IsRoot names bytes some f g

pub follows_judged : (IsRoot : Element → Type 0) (names : List (List ℕ)) (bytes : List ℕ) (result : Result (Unit {0}) CircFault) → names ≡ [] → Follows IsRoot names bytes → ((e : Element) → Judges (Stands (whole e) bytes) result) → Judges IsRoot result
follows_judged IsRoot names bytes result none f h =
    let w = follows_end IsRoot names bytes none f in
    judges_same (Stands (whole w.0) bytes) IsRoot result w.1.from w.1.to (h w.0)

pub names_pushed : (old new : List (Bor (List ℕ))) (last : Bor (List ℕ)) → new ≡ old ++ last ∷ [] → view_names new ≡ last.now ∷ view_names old
names_pushed old new last e = names_popped new old last e

-- the tree of a text too deep to be built
pub told_deep : (bytes : List ℕ) → ((root : Element) → SpellsText root bytes → has_levels greatest_level root ≡ false) → ((root : Element) × SpellsText root bytes) → IsTooDeep bytes
told_deep bytes h r = record { root = r.0; text = r.1; deeper = ap not (h r.0 r.1) }

-- where the first token is none of an element there is no tree
pub root_none : (bytes : List ℕ) (x : Token × List ℕ) → root_at bytes ≡ Some x → ((root : Element) → Root x.0 x.1 root → ⊥) → (root : Element) → SpellsText root bytes → ⊥
root_none bytes x e none root s = none root (root_to bytes x root e s)

names_long : (names : List (Bor (List ℕ))) → length (view_names names) ≡ length names
names_long names = length-reverse (map (λ (n : Bor (List ℕ)). n.now) names) ∙ length-map names (λ (n : Bor (List ℕ)). n.now)

pub some_names : (names : List (Bor (List ℕ))) (empty : Bool) → empty ≡ eqb (length names) 0 → empty ≡ false → 0 < length (view_names names)
some_names names empty e f = let long = names_long names in let differ : eqb (length names) 0 ≡ false = sym e ∙ f in let lt : 0 < length names = above (length names) differ in omega (arith, long, lt)
  where
    above : (n : ℕ) → eqb n 0 ≡ false → 0 < n
    above n h = grind (arith, nat_tests)

pub no_names : (names : List (Bor (List ℕ))) (empty : Bool) → empty ≡ eqb (length names) 0 → empty ≡ true → view_names names ≡ []
no_names names empty e t = nil_from_length (view_names names) (names_long names ∙ eqb-true (length names) 0 (sym e ∙ t))
