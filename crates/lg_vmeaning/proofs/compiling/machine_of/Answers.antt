use Rattle.std.proofs.Common.{◌≡◌, ℕ, List, map, ap, subst, ◌∙◌}
use Rattle.lg_vrules.specs.Rules.{all_differ, stored, stored_name}
use Rattle.lg_vrules.specs.Indexes.{KnowsIndexes}
use Rattle.lg_vrules.specs.Things.{names_of, is_reg, is_memory}
use Rattle.lg_vtree.specs.declared.module.Stmt.{Stmt}
use Rattle.lg_vmeaning.specs.Compiled.{known}
use Rattle.lg_vmeaning.proofs.RunLemmas.{known_differ}
use Rattle.lg_vmeaning.proofs.WordLemmas.{memories_differ}
use Rattle.lg_vmeaning.proofs.CompiledLemmas.{texts, known_names, equations_are, outputs_are, nexts_are, writes_are, KnowsModule}
use Rattle.lg_vmeaning.proofs.compiling.machine_of.Goals as goal

pub of-requires : goal.of-requires
of-requires c =
    let m = c.args.«module».now in
    let order = c.args.order.now in
    let registers : texts c.as_slice.result.now ≡ names_of is_reg m = ap texts c.as_slice.ensures.value ∙ c.in_ok-registers.ensures in
    let names = known_names m order c.args.inputs.now c.as_slice.result.now c.in_ok-known.known.items c.as_slice-assigns.result.now c.requires.inputs registers c.as_slice-assigns.ensures c.in_ok-known.ensures in
    ap all_differ (ap texts c.as_slice-2.ensures.value ∙ names) ∙ known_differ m order c.requires.rules c.requires.order

pub of-requires-2 : goal.of-requires-2
of-requires-2 c =
    ap all_differ (ap texts c.as_slice-3.ensures.value ∙ c.in_ok-memories.ensures) ∙ memories_differ c.args.«module».now c.requires.rules

pub returns : goal.returns
returns c =
    let m = c.args.«module».now in
    let order = c.args.order.now in
    let registers : texts c.as_slice.result.now ≡ names_of is_reg m = ap texts c.as_slice.ensures.value ∙ c.in_ok-registers.ensures in
    let names = known_names m order c.args.inputs.now c.as_slice.result.now c.in_ok-known.known.items c.as_slice-assigns.result.now c.requires.inputs registers c.as_slice-assigns.ensures c.in_ok-known.ensures in
    let numbers : KnowsIndexes (known m order) c.in_ok-numbers.numbers =
    subst (λ (some : List (List ℕ)). KnowsIndexes some c.in_ok-numbers.numbers) (ap texts c.as_slice-2.ensures.value ∙ names) c.in_ok-numbers.ensures in
    let memories : KnowsIndexes (names_of is_memory m) c.in_ok-words.words =
    subst (λ (some : List (List ℕ)). KnowsIndexes some c.in_ok-words.words) (ap texts c.as_slice-3.ensures.value ∙ c.in_ok-memories.ensures) c.in_ok-words.ensures in
    let indexes : KnowsIndexes (stored m) c.in_ok-stmt_indexes.stmt_indexes =
    subst (λ (some : List (List ℕ)). KnowsIndexes some c.in_ok-stmt_indexes.stmt_indexes)
    (ap texts c.as_slice-4.ensures.value ∙ (c.in_ok-stored.ensures ∙ ap (λ (stmts : List Stmt). map stored_name stmts) c.stmts.ensures)) c.in_ok-stmt_indexes.ensures in
    let knows : KnowsModule m order c.args.names.now c.in_ok-numbers.numbers c.in_ok-words.words = record { named = c.requires.names; numbers_known = numbers; memories_known = memories } in
    let equations = equations_are m order c.args.names.now c.in_ok-numbers.numbers c.in_ok-words.words knows c.as_slice-assigns.result.now c.in_ok-equations.field-0 c.in_ok-equations.ensures c.as_slice-assigns.ensures in
    let outputs = outputs_are m order c.in_ok-numbers.numbers c.args.outputs.now c.in_ok-indexes.field-0 c.in_ok-indexes.ensures c.requires.outputs numbers in
    let nexts = nexts_are m order c.args.names.now c.in_ok-numbers.numbers c.in_ok-words.words knows c.stmts-2.result.now c.in_ok-stmt_indexes.stmt_indexes c.stmts-2.ensures indexes
    c.as_slice-5.result.now c.in_ok-nexts.field-0 c.in_ok-nexts.ensures (ap texts c.as_slice-5.ensures.value ∙ c.in_ok-registers.ensures) in
    let writes = writes_are m order c.args.names.now c.in_ok-numbers.numbers c.in_ok-words.words knows c.stmts-2.result.now c.in_ok-stmt_indexes.stmt_indexes c.stmts-2.ensures indexes
    c.as_slice-6.result.now c.in_ok-writes.field-0 c.in_ok-writes.ensures (ap texts c.as_slice-6.ensures.value ∙ c.in_ok-memories.ensures) in
    λ i. record { equations = equations i; outputs = outputs i; registers = nexts i; memories = writes i }
