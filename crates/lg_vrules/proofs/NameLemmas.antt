-- An index of names takes one name more, or tells that it is there.
use Rattle.std.proofs.Common.{◌≡◌, ℕ, Bool, true, false, cond, ◌&&◌, ◌||◌, List, [], ◌∷◌, ◌++◌, map, Option, Some, refl, sym, ap, subst, ◌∙◌}
use Rattle.std.specs.Prelude.{not, is_none}
use Rattle.std.specs.BTreeMap.{IsEmpty}
use Rattle.std.specs.Map.{lookup}
use Rattle.std.specs.Str.{bytes_eq}
use Rattle.std.proofs.lemmas.Bool.{and_parts}
use Rattle.std.proofs.lemmas.List.{map-append}
use Rattle.std.proofs.lemmas.Slice.Eq.{bytes_eq-Decides}
pub use Rattle.lg_vnames.proofs.NameLemmas.{neither, flip, not_true, both, clash, differ_more, differ_front}
use Rattle.lg_vrules.specs.declared.names.Thing.{Thing}
use Rattle.lg_vrules.specs.declared.names.NameIndex.{NameIndex}
use Rattle.lg_vrules.specs.Rules.{is_among, all_differ}
use Rattle.lg_vrules.specs.Known.{KnowsThings, Adds}

abbrev Named : Type 0
Named = List ℕ × Thing

abbrev pub first_names : List Named → List (List ℕ)
first_names some = map (λ (t : Named). t.0) some

names_more : (some : List Named) (t : Named) → first_names (some ++ t ∷ []) ≡ first_names some ++ t.0 ∷ []
names_more some t = map-append (λ (t : Named). t.0) some (t ∷ [])

abbrev at : List ℕ → List ℕ → Bool
at name other = bytes_eq other name

-- a name is among those of an index exactly where something stands under it
among_is : (some : List Named) (name : List ℕ) → is_among name (first_names some) ≡ not (is_none (lookup (at name) some))
among_is [] name = refl
among_is (t ∷ some) name = step (at name t.0) t.1 (lookup (at name) some) (is_among name (first_names some)) (among_is some name)
  where
    step : (here : Bool) (thing : Thing) (rest : Option Thing) (among : Bool) → among ≡ not (is_none rest) → (here || among) ≡ not (is_none (cond here (Some thing) rest))
    step true thing rest among e = refl
    step false thing rest among e = e

lookup_more : (some : List Named) (t : Named) (name : List ℕ) → is_among t.0 (first_names some) ≡ false → lookup (at name) (some ++ t ∷ []) ≡ cond (bytes_eq t.0 name) (Some t.1) (lookup (at name) some)
lookup_more [] t name fresh = refl
lookup_more (s ∷ some) t name fresh =
    let apart = neither (at t.0 s.0) (is_among t.0 (first_names some)) fresh in
    step (at name s.0) (bytes_eq t.0 name) refl refl apart.0 (lookup_more some t name apart.1)
  where
    same : at name s.0 ≡ true → bytes_eq t.0 name ≡ true → at t.0 s.0 ≡ true
    same e f = (bytes_eq-Decides s.0 t.0).1 ((bytes_eq-Decides s.0 name).0 e ∙ sym ((bytes_eq-Decides t.0 name).0 f))

    step : (here new : Bool) → at name s.0 ≡ here → bytes_eq t.0 name ≡ new → at t.0 s.0 ≡ false → lookup (at name) (some ++ t ∷ []) ≡ cond (bytes_eq t.0 name) (Some t.1) (lookup (at name) some)
        → cond (at name s.0) (Some s.1) (lookup (at name) (some ++ t ∷ [])) ≡ cond (bytes_eq t.0 name) (Some t.1) (cond (at name s.0) (Some s.1) (lookup (at name) some))
    step true true e f apart rest = absurd (let no : true ≡ false = sym (same e f) ∙ apart in cc no)
    step true false e f apart rest = rw (e, f) refl
    step false new e f apart rest = rw e rest

-- an index takes a new name
pub KnowsThings-more : (some : List Named) (old new : NameIndex) (name : List ℕ) (thing : Thing) → KnowsThings some old → Adds old new name thing true → KnowsThings (some ++ (name, thing) ∷ []) new
KnowsThings-more some old new name thing knows adds =
    let none : is_none (lookup (at name) some) ≡ true = ap is_none (sym (knows.known name)) ∙ sym adds.was_new in
    let fresh : is_among name (first_names some) ≡ false = among_is some name ∙ ap not none in
    record {
      differ = ap all_differ (names_more some (name, thing)) ∙ differ_more (first_names some) name knows.differ fresh;
      known = λ other.
          adds.updated other ∙ (ap (λ (o : Option Thing). cond (bytes_eq name other) (Some thing) o) (knows.known other) ∙ sym (lookup_more some (name, thing) other fresh));
    }

-- an index that has a name already
pub KnowsThings-clash : (some : List Named) (old new : NameIndex) (name : List ℕ) (thing : Thing) → KnowsThings some old → Adds old new name thing false → all_differ (first_names (some ++ (name, thing) ∷ [])) ≡ false
KnowsThings-clash some old new name thing knows adds =
    let among : is_among name (first_names some) ≡ true = among_is some name ∙ (ap (λ (o : Option Thing). not (is_none o)) (sym (knows.known name)) ∙ ap not (sym adds.was_new)) in
    ap all_differ (names_more some (name, thing)) ∙ clash (first_names some) name among

-- things of which two have one name, with more behind them
pub things_front : (some more : List Named) → all_differ (first_names some) ≡ false → all_differ (first_names (some ++ more)) ≡ false
things_front some more e = ap all_differ (map-append (λ (t : Named). t.0) some more) ∙ differ_front (first_names some) (first_names more) e

pub KnowsThings-none : (index : NameIndex) → IsEmpty index.things → KnowsThings [] index
KnowsThings-none index empty = record { differ = refl; known = λ name. rw empty refl }
