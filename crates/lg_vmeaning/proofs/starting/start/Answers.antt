use Rattle.std.proofs.Common.{◌≡◌, ℕ, List, map, fold, filter_map, ap, subst, ◌∙◌, Bor}
use Rattle.lg_vtree.specs.declared.module.Word.{Word}
use Rattle.lg_vrules.specs.Things.{names_of, is_memory}
use Rattle.lg_vrules.specs.Rules.{all_differ, words_of}
use Rattle.lg_vrules.specs.Indexes.{KnowsIndexes}
use Rattle.lg_vmeaning.specs.Rows.{start_number, start_memory}
use Rattle.lg_vmeaning.specs.Starting.{with_word_by}
use Rattle.lg_vmeaning.proofs.WordLemmas.{memories_differ, start_memories}
use Rattle.lg_vmeaning.proofs.starting.start.Goals as goal

pub of-requires : goal.of-requires
of-requires c =
    let told : map (λ name. name.now) c.in_ok-names.names.items ≡ names_of is_memory c.args.«module».now = c.in_ok-names.ensures in
    ap (λ (names : List (Bor (List ℕ))). all_differ (map (λ name. name.now) names)) c.as_slice-2.ensures.value
    ∙ (ap all_differ told ∙ memories_differ c.args.«module».now c.requires)

pub returns : goal.returns
returns c =
    let m = c.args.«module».now in
    let indexes = c.in_ok-indexes.indexes in
    let told : map (λ name. name.now) c.in_ok-names.names.items ≡ names_of is_memory m = c.in_ok-names.ensures in
    let names : map (λ name. name.now) c.as_slice-2.result.now ≡ names_of is_memory m =
    ap (λ (names : List (Bor (List ℕ))). map (λ name. name.now) names) c.as_slice-2.ensures.value ∙ told in
    let knows = subst (λ (names : List (List ℕ)). KnowsIndexes names indexes) names c.in_ok-indexes.ensures in
    let numbers : c.in_ok-numbers.numbers.items ≡ filter_map start_number m.decls = c.in_ok-numbers.ensures ∙ ap (filter_map start_number) c.as_slice.ensures in
    let memories : c.put_words.new.memories.items ≡ filter_map (start_memory m) m.decls =
    c.put_words.ensures
    ∙ (ap (λ (words : List Word). fold (with_word_by indexes) c.in_ok-memories.memories.items words) c.words.ensures
    ∙ (ap (λ (memories : List (List ℕ)). fold (with_word_by indexes) memories (words_of m)) c.in_ok-memories.ensures ∙ start_memories m indexes knows (memories_differ m c.requires))) in
    λ i. record { numbers = numbers i; memories = memories i }
