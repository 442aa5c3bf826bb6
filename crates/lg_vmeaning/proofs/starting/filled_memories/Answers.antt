use Rattle.std.proofs.Common.{◌≡◌, ℕ, ◌+◌, ◌<◌, List, [], ◌∷◌, ◌++◌, length, map, get_or, Vec, Global, Bor, Option, None, refl, sym, ap, subst, ◌∙◌, arith}
use Rattle.std.specs.Prelude.{replicate}
use Rattle.lg_vtree.specs.declared.module.Decl.{Decl}
use Rattle.lg_vtree.specs.declared.module.Decl.TheVariants as decl
use Rattle.lg_vtree.specs.declared.module.Fill.{Fill}
use Rattle.lg_vtree.specs.declared.module.Module.{Module}
use Rattle.lg_vrules.specs.Indexes.{KnowsIndexes}
use Rattle.lg_vrules.specs.Rules.{all_differ, filled, fills_of}
use Rattle.lg_vmeaning.specs.Rows.{filled_with}
use Rattle.lg_vmeaning.specs.Starting.{filled_memory, filled_by}
use Rattle.lg_vmeaning.proofs.WordLemmas.{fills_differ, words_few, filled_is, drawn_more, drawn_same}
use Rattle.lg_vmeaning.proofs.starting.filled_memories.Goals as goal
use Rattle.lg_vmeaning.proofs.starting.filled_memories.Goals.{in-Memory+in_ok-vec+in_ok-push, in_default}

-- what is no memory has no words
no_memory : (m : Module) (d : Decl) → ((range : Option ℕ) (name : List ℕ) (last : ℕ) → d ≡ decl.Memory range name last → ⊥) → filled_memory m d ≡ None
no_memory m (decl.Wire range name) other = refl
no_memory m (decl.Reg range name start) other = refl
no_memory m (decl.Memory range name last) other = absurd (other range name last refl)

pub of-requires : goal.of-requires
of-requires c =
    let m = c.args.«module».now in
    let told : map (λ name. name.now) c.in_ok-names.names.items ≡ map (λ (f : Fill). f.name) c.fills.result.now = c.in_ok-names.ensures in
    ap (λ (names : List (Bor (List ℕ))). all_differ (map (λ name. name.now) names)) c.as_slice.ensures.value
    ∙ (ap all_differ (told ∙ ap (map (λ (f : Fill). f.name)) c.fills.ensures) ∙ fills_differ m c.requires)

pub overflow_cast-last : goal.overflow_cast-last
overflow_cast-last c =
    let few = words_few c.args.«module».now c.as_slice-decl-items.result.now c.loop-decl.decl-index c.decl-item.result c.requires c.as_slice-decl-items.ensures c.loop-decl-test.true c.decl-item.is c.in-Memory.is in
    omega arith

pub overflow_add-last : goal.overflow_add-last
overflow_add-last c =
    let few = words_few c.args.«module».now c.as_slice-decl-items.result.now c.loop-decl.decl-index c.decl-item.result c.requires c.as_slice-decl-items.ensures c.loop-decl-test.true c.decl-item.is c.in-Memory.is in
    omega arith

pub loop-decl-preserved : goal.loop-decl-preserved
loop-decl-preserved c =
    let m = c.args.«module».now in
    let i = c.loop-decl.decl-index in
    let d = c.decl-item.result in
    let indexes = c.in_ok-indexes.indexes in
    let told : map (λ name. name.now) c.in_ok-names.names.items ≡ map (λ (f : Fill). f.name) c.fills.result.now = c.in_ok-names.ensures in
    let names : map (λ name. name.now) c.as_slice.result.now ≡ filled m =
    ap (λ (names : List (Bor (List ℕ))). map (λ name. name.now) names) c.as_slice.ensures.value ∙ (told ∙ ap (map (λ (f : Fill). f.name)) c.fills.ensures) in
    let knows = subst (λ (names : List (List ℕ)). KnowsIndexes names indexes) names c.in_ok-indexes.ensures in
    let inside = subst (λ (decls : List Decl). i < length decls) c.as_slice-decl-items.ensures c.loop-decl-test.true in
    let here = c.decl-item.is ∙ ap (λ (decls : List Decl). get_or decls i d) c.as_slice-decl-items.ensures in
    elim c.match-decl.branch [
      | in-Memory+in_ok-vec+in_ok-push w ↦
          let last = w.in-Memory.last in
          let name = w.in-Memory.name in
          let value : w.filled_with-value.result ≡ filled_with m name =
          w.filled_with-value.ensures
          ∙ (ap (λ (fills : List Fill). filled_by indexes fills w.as_str.result.now) w.fills-in-Memory.ensures
          ∙ (ap (filled_by indexes (fills_of m)) w.as_str.ensures.spelling ∙ filled_is m indexes name knows)) in
          let words : w.from_vec.result ≡ replicate (last + 1) (filled_with m name) =
          w.from_vec.ensures ∙ (w.in_ok-vec.ensures.items_if_clones_equal (λ y e. e) ∙ ap (replicate (last + 1)) value) in
          let more = drawn_more (filled_memory m) m.decls i d (replicate (last + 1) (filled_with m name)) inside here (ap (filled_memory m) w.in-Memory.is) in
          ap (λ (memories : Vec (List ℕ) Global). memories.items) w.memories-is
          ∙ (w.in_ok-push.ensures.items
          ∙ (ap (λ (words : List ℕ). c.loop-decl.memories.items ++ words ∷ []) words
          ∙ (ap (λ (memories : List (List ℕ)). memories ++ replicate (last + 1) (filled_with m name) ∷ []) c.loop-decl.invariant ∙ sym more)))
      | in_default w ↦
          let same = drawn_same (filled_memory m) m.decls i d inside here (no_memory m d w.in_default.not-Memory) in
          ap (λ (memories : Vec (List ℕ) Global). memories.items) w.memories-is ∙ (c.loop-decl.invariant ∙ sym same)
    ]
