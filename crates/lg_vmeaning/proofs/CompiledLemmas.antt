-- What is found while a module is made ready to run is what its machine has.
use Rattle.std.proofs.Common.{◌≡◌, ℕ, ◌+◌, ◌<◌, List, [], ◌∷◌, ◌++◌, length, map, take, get_or, Option, Some, refl, sym, ap, ◌∙◌, Bor}
use Rattle.std.specs.Prelude.{filter_map, slice_get, option_and_then}
use Rattle.std.proofs.lemmas.List.{take_more}
use Rattle.std.proofs.lemmas.List.Elements.{filter_map-append}
use Rattle.lg_vtree.specs.declared.expr.Expr.{Expr}
use Rattle.lg_vtree.specs.declared.module.Assign.{Assign}
use Rattle.lg_vtree.specs.declared.module.Stmt.{Stmt}
use Rattle.lg_vtree.specs.declared.module.Module.{Module}
use Rattle.lg_vrules.specs.Things.{things, lines_of, names_of, is_input, is_output, is_reg, is_memory}
use Rattle.lg_vrules.specs.Rules.{stmts_of, stored, stored_name}
use Rattle.lg_vrules.specs.declared.names.NameIndex.{NameIndex}
use Rattle.lg_vrules.specs.Known.{KnowsThings, width_under}
use Rattle.lg_vrules.specs.declared.indexes.Indexes.{Indexes}
use Rattle.lg_vrules.specs.Indexes.{KnowsIndexes, index_under, index_from}
use Rattle.lg_vrules.proofs.NameIndexLemmas.{width_is}
use Rattle.lg_vresolve.specs.Resolved.{resolved, index_or_0}
use Rattle.lg_vmachine.specs.declared.term.Term.{Term}
use Rattle.lg_vmachine.specs.declared.machine.Write.{Write}
use Rattle.lg_vmeaning.specs.declared.ports.PortLine.{PortLine}
use Rattle.lg_vmeaning.specs.Ports.{port_line, port_lines}
use Rattle.lg_vmeaning.specs.Rows.{stmt_for}
use Rattle.lg_vmeaning.specs.Compiled.{known, term_of, next_by, write_by, next_of, write_of}
use Rattle.lg_vmeaning.specs.InOrder.{ordered}
use Rattle.lg_vmeaning.proofs.SpotLemmas.{found_at}

-- texts of borrowed names, each turned into something
pub map_texts : {B : Type 0} (f : List ℕ → B) (names : List (Bor (List ℕ))) → map (λ (n : Bor (List ℕ)). f n.now) names ≡ map f (map (λ (n : Bor (List ℕ)). n.now) names)
map_texts f [] = refl
map_texts f (n ∷ names) = ap (λ more. f n.now ∷ more) (map_texts f names)

pub map_lines : {B : Type 0} (f : List ℕ → B) (lines : List (List ℕ × ℕ)) → map (λ (l : PortLine). f l.name) (map port_line lines) ≡ map f (map (λ (l : List ℕ × ℕ). l.0) lines)
map_lines f [] = refl
map_lines f (l ∷ lines) = ap (λ more. f l.0 ∷ more) (map_lines f lines)

lines_named : (lines : List (List ℕ × ℕ)) → map (λ (l : PortLine). l.name) (map port_line lines) ≡ map (λ (l : List ℕ × ℕ). l.0) lines
lines_named [] = refl
lines_named (l ∷ lines) = ap (λ more. l.0 ∷ more) (lines_named lines)

-- inputs, registers and what the assigns give are the names in the order of their numbers
pub known_are : (m : Module) (order : List ℕ) (inputs : List PortLine) (registers : List (List ℕ)) → inputs ≡ port_lines is_input m → registers ≡ names_of is_reg m
    → map (λ (l : PortLine). l.name) inputs ++ registers ++ map (λ (a : Assign). a.name) (filter_map (slice_get m.assigns) order) ≡ known m order
known_are m order inputs registers e f =
    let given = map (λ (a : Assign). a.name) (filter_map (slice_get m.assigns) order) in
    (λ i. map (λ (l : PortLine). l.name) (e i) ++ f i ++ given)
    ∙ ap (λ (names : List (List ℕ)). names ++ names_of is_reg m ++ given) (lines_named (lines_of is_input m))

-- the indexes under names are those among the names
indexes_are : (names : List (List ℕ)) (index : List ℕ → Option ℕ) → ((name : List ℕ) → index name ≡ index_from 0 names name) → index ≡ index_from 0 names
indexes_are names index known = λ i name. known name i

-- the term of an expression, by what its names stand for
abbrev pub term_with : NameIndex → Indexes → Indexes → Expr → Term
term_with names numbers memories e = (resolved (width_under names) (index_under numbers) (index_under memories) e).term

-- what is known while a module is made ready to run
pub record KnowsModule (m : Module) (order : List ℕ) (index : NameIndex) (numbers memories : Indexes) : Type 0 where
  pub named : KnowsThings (things m) index
  pub numbers_known : KnowsIndexes (known m order) numbers
  pub memories_known : KnowsIndexes (names_of is_memory m) memories

terms_are : (m : Module) (order : List ℕ) (index : NameIndex) (numbers memories : Indexes) → KnowsModule m order index numbers memories → (e : Expr) → term_with index numbers memories e ≡ term_of m order e
terms_are m order index numbers memories k e =
    λ i. (resolved (width_is m index k.named i) (indexes_are (known m order) (index_under numbers) k.numbers_known.known i) (indexes_are (names_of is_memory m) (index_under memories) k.memories_known.known i) e).term

-- the statement that stores into what has this name
abbrev pub stmt_with : List Stmt → Indexes → List ℕ → Option Stmt
stmt_with stmts indexes name = option_and_then (slice_get stmts) (index_under indexes name)

stmts_are : (m : Module) (stmts : List Stmt) (indexes : Indexes) → stmts ≡ stmts_of m → KnowsIndexes (stored m) indexes → (name : List ℕ) → stmt_with stmts indexes name ≡ stmt_for m name
stmts_are m stmts indexes e knows name = (λ i. option_and_then (slice_get (e i)) (knows.known name i)) ∙ found_at stored_name (stmts_of m) name

abbrev pub texts : List (Bor (List ℕ)) → List (List ℕ)
texts names = map (λ (n : Bor (List ℕ)). n.now) names

-- the names that are gathered are those whose numbers are known
pub known_names : (m : Module) (order : List ℕ) (inputs : List PortLine) (registers names : List (Bor (List ℕ))) (assigns : List Assign) → inputs ≡ port_lines is_input m → texts registers ≡ names_of is_reg m
    → assigns ≡ m.assigns → texts names ≡ map (λ (l : PortLine). l.name) inputs ++ texts registers ++ map (λ (a : Assign). a.name) (filter_map (slice_get assigns) order) → texts names ≡ known m order
known_names m order inputs registers names assigns e f g h =
    h
    ∙ (ap (λ (some : List Assign). map (λ (l : PortLine). l.name) inputs ++ texts registers ++ map (λ (a : Assign). a.name) (filter_map (slice_get some) order)) g
    ∙ known_are m order inputs (texts registers) e f)

pub equations_are : (m : Module) (order : List ℕ) (index : NameIndex) (numbers memories : Indexes) → KnowsModule m order index numbers memories → (assigns : List Assign) (terms : List Term)
    → terms ≡ map (λ (a : Assign). term_with index numbers memories a.value) (filter_map (slice_get assigns) order) → assigns ≡ m.assigns → terms ≡ map (λ (a : Assign). term_of m order a.value) (ordered m order)
equations_are m order index numbers memories k assigns terms e f =
    e ∙ (λ i. map (λ (a : Assign). terms_are m order index numbers memories k a.value i) (filter_map (slice_get (f i)) order))

pub outputs_are : (m : Module) (order : List ℕ) (numbers : Indexes) (outputs : List PortLine) (indexes : List ℕ) → indexes ≡ map (λ (l : PortLine). index_or_0 (index_under numbers) l.name) outputs → outputs ≡ port_lines is_output m
    → KnowsIndexes (known m order) numbers → indexes ≡ map (index_or_0 (index_from 0 (known m order))) (names_of is_output m)
outputs_are m order numbers outputs indexes e f knows =
    e
    ∙ ((λ i. map (λ (l : PortLine). index_or_0 (indexes_are (known m order) (index_under numbers) knows.known i) l.name) (f i))
    ∙ map_lines (index_or_0 (index_from 0 (known m order))) (lines_of is_output m))

pub nexts_are : (m : Module) (order : List ℕ) (index : NameIndex) (numbers memories : Indexes) → KnowsModule m order index numbers memories → (stmts : List Stmt) (indexes : Indexes) → stmts ≡ stmts_of m → KnowsIndexes (stored m) indexes
    → (registers : List (Bor (List ℕ))) (terms : List (Option Term)) → terms ≡ map (λ (n : Bor (List ℕ)). next_by (term_with index numbers memories) (stmt_with stmts indexes n.now)) registers
    → texts registers ≡ names_of is_reg m → terms ≡ map (λ (name : List ℕ). next_of m order (stmt_for m name)) (names_of is_reg m)
nexts_are m order index numbers memories k stmts indexes same knows registers terms e f =
    let next = λ (name : List ℕ). next_of m order (stmt_for m name) in
    e
    ∙ ((λ i. map (λ (n : Bor (List ℕ)). next_by (λ x. terms_are m order index numbers memories k x i) (stmts_are m stmts indexes same knows n.now i)) registers)
    ∙ (map_texts next registers ∙ ap (map next) f))

pub writes_are : (m : Module) (order : List ℕ) (index : NameIndex) (numbers memories : Indexes) → KnowsModule m order index numbers memories → (stmts : List Stmt) (indexes : Indexes) → stmts ≡ stmts_of m → KnowsIndexes (stored m) indexes
    → (filled : List (Bor (List ℕ))) (writes : List (Option Write)) → writes ≡ map (λ (n : Bor (List ℕ)). write_by (term_with index numbers memories) (stmt_with stmts indexes n.now)) filled
    → texts filled ≡ names_of is_memory m → writes ≡ map (λ (name : List ℕ). write_of m order (stmt_for m name)) (names_of is_memory m)
writes_are m order index numbers memories k stmts indexes same knows filled writes e f =
    let write = λ (name : List ℕ). write_of m order (stmt_for m name) in
    e
    ∙ ((λ i. map (λ (n : Bor (List ℕ)). write_by (λ x. terms_are m order index numbers memories k x i) (stmts_are m stmts indexes same knows n.now i)) filled)
    ∙ (map_texts write filled ∙ ap (map write) f))

-- what the assigns at one index more give
pub ordered_more : (assigns : List Assign) (order : List ℕ) (i d index : ℕ) (a : Assign) → i < length order → index ≡ get_or order i d → slice_get assigns index ≡ Some a
    → filter_map (slice_get assigns) (take (i + 1) order) ≡ filter_map (slice_get assigns) (take i order) ++ a ∷ []
ordered_more assigns order i d index a lt at stands =
    ap (filter_map (slice_get assigns)) (take_more order i d lt ∙ ap (λ p. take i order ++ p ∷ []) (sym at))
    ∙ (filter_map-append (slice_get assigns) (take i order) (index ∷ []) ∙ ap (λ more. filter_map (slice_get assigns) (take i order) ++ more) one)
  where
    one : filter_map (slice_get assigns) (index ∷ []) ≡ a ∷ []
    one = rw stands refl
