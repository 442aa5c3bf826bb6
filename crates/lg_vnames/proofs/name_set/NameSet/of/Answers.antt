use Rattle.std.proofs.Common.{◌≡◌, ◌+◌, ℕ, List, [], ◌∷◌, ◌++◌, true, cond, map, take, drop, get_or, take-append-drop, arith, refl, sym, ap, subst, ◌∙◌, Bor}
use Rattle.std.specs.BTreeSet.{contains_text}
use Rattle.std.specs.Prelude.{string_bytes}
use Rattle.std.specs.Str.{bytes_eq}
use Rattle.std.proofs.SliceLists.{take_long}
use Rattle.std.proofs.lemmas.List.{map_more, map-append}
use Rattle.std.proofs.lemmas.Map.Text.{btree_set_updates_text}
use Rattle.lg_vnames.specs.Names.{all_differ}
use Rattle.lg_vnames.specs.Sets.{KnowsNames}
use Rattle.lg_vnames.proofs.NameLemmas.{KnowsNames-more, clash, differ_front}
use Rattle.lg_vnames.proofs.name_set.NameSet.of.Goals as goal

abbrev texts : List (Bor (List ℕ)) → List (List ℕ)
texts names = map (λ name. name.now) names

pub loop-name-init : goal.loop-name-init
loop-name-init c = record { differ = refl; known = λ name. rw c.new.ensures.empty refl }

pub returns-then-contains : goal.returns-then-contains
returns-then-contains c =
    let names = c.args.names.now in
    let i = c.loop-name.name-index in
    let none : Bor (List ℕ) = record { ref_ptr = (0, 0); now = [] } in
    let name = get_or names i none in
    let more : texts (take (i + 1) names) ≡ texts (take i names) ++ name.now ∷ [] = map_more (λ (n : Bor (List ℕ)). n.now) names i none c.loop-name-test.true in
    let twice = clash (texts (take i names)) name.now (sym (c.loop-name.invariant.known name.now) ∙ (sym c.contains.ensures ∙ c.if-contains.true)) in
    let front = differ_front (texts (take (i + 1) names)) (texts (drop (i + 1) names)) (ap all_differ more ∙ twice) in
    ap all_differ (sym (sym (map-append (λ (n : Bor (List ℕ)). n.now) (take (i + 1) names) (drop (i + 1) names)) ∙ ap texts (take-append-drop (i + 1) names))) ∙ front

pub loop-name-preserved : goal.loop-name-preserved
loop-name-preserved c =
    let names = c.args.names.now in
    let i = c.loop-name.name-index in
    let none : Bor (List ℕ) = record { ref_ptr = (0, 0); now = [] } in
    let name = get_or names i none in
    let more : texts (take (i + 1) names) ≡ texts (take i names) ++ name.now ∷ [] = map_more (λ (n : Bor (List ℕ)). n.now) names i none c.loop-name-test.true in
    let key = c.in_ok-from_str.field-0 in
    let spelled : string_bytes key ≡ name.now = c.in_ok-from_str.ensures.ok in
    let grows : (q : List ℕ) → contains_text c.insert.new.self q ≡ cond (bytes_eq name.now q) true (contains_text c.loop-name.set.names q) = λ q.
    subst (λ (k : List ℕ). contains_text c.insert.new.self q ≡ cond (bytes_eq k q) true (contains_text c.loop-name.set.names q)) spelled (btree_set_updates_text (string_bytes key) c.loop-name.set.names c.insert.new.self true c.in_ok-insert.ensures.updates q) in
    subst (λ (some : List (List ℕ)). KnowsNames some (record { names = c.insert.new.self })) (sym more)
    (KnowsNames-more (texts (take i names)) name.now c.loop-name.set (record { names = c.insert.new.self }) c.loop-name.invariant (sym c.contains.ensures ∙ c.if-contains.false) grows)

pub returns : goal.returns
returns c =
    let names = c.args.names.now in
    let all : take c.loop-name.name-index names ≡ names = take_long names c.loop-name.name-index (omega (arith, c.loop-name-test.false)) in
    subst (λ (some : List (Bor (List ℕ))). KnowsNames (texts some) c.loop-name.set) all c.loop-name.invariant
