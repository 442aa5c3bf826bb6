-- What the machine of a module computes is the module's solution.
use Rattle.std.proofs.Common.{◌≡◌, ℕ, zero, suc, ◌+◌, ◌<◌, ◌≤◌, ◌^◌, nat_le, Bool, true, false, cond, List, [], ◌∷◌, ◌++◌, map, append_assoc, append-nil, Option, Some, None, refl, sym, ap, subst, ◌∙◌, arith, rules, inl, inr, slice_index_or}
use Rattle.std.specs.Prelude.{not, option_map, option_and_then, unwrap_or, slice_get, slice_index, Contains, All}
use Rattle.std.specs.List.{AllByRecursion, list_all}
use Rattle.std.specs.Str.{bytes_eq}
use Rattle.std.proofs.lemmas.Bool.{false≢true}
use Rattle.std.proofs.lemmas.List.{map-append}
use Rattle.std.proofs.lemmas.List.Elements.{All-from_recursion}
use Rattle.std.proofs.lemmas.List.Folds.{list_all-append, list_all-map}
use Rattle.std.proofs.lemmas.Option.{same_Some, slice_get_within, get_or_from_slice_get, slice_get-map, unwrap_or-slice_get}
use Rattle.std.proofs.lemmas.Slice.Eq.{bytes_eq-Decides}
use Rattle.lg_vtree.specs.declared.expr.Expr.{Expr}
use Rattle.lg_vtree.specs.declared.module.Assign.{Assign}
use Rattle.lg_vtree.specs.declared.module.Module.{Module}
use Rattle.lg_vrules.specs.declared.names.Sort.{Sort}
use Rattle.lg_vrules.specs.declared.names.Sort.TheVariants as sort
use Rattle.lg_vrules.specs.declared.names.Thing.{Thing}
use Rattle.lg_vrules.specs.Things.{range_width, things, port_thing, decl_thing, sort_of, width_of, names_of, lines_of, is_input, is_output, is_reg, is_memory, is_readable}
use Rattle.lg_vrules.specs.Depends.{names_read}
use Rattle.lg_vrules.specs.Order.{IsOrder}
use Rattle.lg_vrules.specs.Indexes.{index_from}
use Rattle.lg_vrules.specs.Rules.{is_among, all_differ, is_of, reads_declared, expr_width, most_bits, is_narrow, first_broken}
use Rattle.lg_vrules.proofs.GraphLemmas.{names, index_tells}
use Rattle.lg_vrules.proofs.NameIndexLemmas.{narrow_widths}
use Rattle.lg_vrules.proofs.NameLemmas.{both}
use Rattle.lg_vmachine.specs.Kept.{Kept}
use Rattle.lg_vmachine.specs.Machine.{run}
use Rattle.lg_vresolve.specs.Meaning.{Valuation, memory_words, number_of}
use Rattle.lg_vresolve.specs.Resolved.{index_or_0}
use Rattle.lg_vmachine.specs.Terms.{term_number}
use Rattle.lg_vmachine.specs.declared.term.Term.{Term}
use Rattle.lg_vresolve.proofs.ReadLemmas.{reads_readable}
use Rattle.lg_vresolve.proofs.ResolvedLemmas.{resolved_is}
use Rattle.lg_vmachine.proofs.ShiftLemmas.{below_more}
use Rattle.lg_vmeaning.specs.Solution.{AreNumbers, IsOf, IsTheSolution}
use Rattle.lg_vmeaning.specs.InOrder.{IsIn, AllDiffer, sources, ordered}
use Rattle.lg_vmeaning.specs.Compiled.{known, term_of, machine_of}
use Rattle.lg_vmeaning.proofs.InOrderLemmas.{solved, given_by, TheSolution-ordered}
use Rattle.lg_vmeaning.proofs.NameLemmas.{in_among, found_in, found_passes}
use Rattle.lg_vmeaning.proofs.OrderLemmas.{At, IsEarlier}
use Rattle.lg_vmeaning.proofs.ValidLemmas.{in_left, in_right, differ_both, at_index, kept_rules, of_found, found_of, found_name, to_module, declared_at, keeps, given, words_within, within_at, sources_apart, are_ordered}

-- names that differ

-- names of which none stands twice pass the test
pub all_differ_is : (names : List (List ℕ)) → AllDiffer names → all_differ names ≡ true
all_differ_is [] differ = refl
all_differ_is (name ∷ names) differ = both (fresh (is_among name names) refl) (all_differ_is names differ.1)
  where
    fresh : (b : Bool) → is_among name names ≡ b → not (is_among name names) ≡ true
    fresh true e = absurd (differ.0 (in_among names name e))
    fresh false e = ap not e

-- assigns of which no two give one name a number give numbers to names that differ
differ_by_index : (assigns : List Assign) → ((i j : ℕ) (a b : Assign) → At assigns i a → At assigns j b → a.name ≡ b.name → i ≡ j) → AllDiffer (names assigns)
differ_by_index [] differ = tt
differ_by_index (a ∷ assigns) differ = (
  λ here.
      let b = at_index assigns a.name here in
      let no : 0 ≡ suc b.0 = differ 0 (suc b.0) a b.1 refl b.2 (sym b.3) in
      absurd (omega (arith, no)),
  differ_by_index assigns (λ i j b c at there same. let e : suc i ≡ suc j = differ (suc i) (suc j) b c at there same in omega (arith, e)),
)

-- indexes of names

-- a name of a list has an index in it
indexed : (n : ℕ) (names : List (List ℕ)) (name : List ℕ) → IsIn names name → (k : ℕ) × (index_from n names name ≡ Some k)
indexed n [] name here = absurd here
indexed n (other ∷ names) name here = step (bytes_eq other name) refl here (indexed (n + 1) names name)
  where
    step : (b : Bool) → bytes_eq other name ≡ b → IsIn (other ∷ names) name → (IsIn names name → (k : ℕ) × (index_from (n + 1) names name ≡ Some k))
        → (k : ℕ) × (cond b (Some n) (index_from (n + 1) names name) ≡ Some k)
    step true e here rest = (n, refl)
    step false e (inl same) rest = absurd (false≢true (sym e ∙ (bytes_eq-Decides other name).1 (sym same)))
    step false e (inr later) rest = rest later

-- a name's index stays the same where more names follow
index_front : (n : ℕ) (names more : List (List ℕ)) (name : List ℕ) (k : ℕ) → index_from n names name ≡ Some k → index_from n (names ++ more) name ≡ Some k
index_front n [] more name k e = absurd (cc e)
index_front n (other ∷ names) more name k e = step (bytes_eq other name) e (index_front (n + 1) names more name k)
  where
    step : (b : Bool) → cond b (Some n) (index_from (n + 1) names name) ≡ Some k → (index_from (n + 1) names name ≡ Some k → index_from (n + 1) (names ++ more) name ≡ Some k)
        → cond b (Some n) (index_from (n + 1) (names ++ more) name) ≡ Some k
    step true e rest = e
    step false e rest = rest e

-- the number of a name stands at the name's index, also where only the first of the names have numbers
number_at : (value : Valuation) (some more all : List (List ℕ)) (name : List ℕ) → some ++ more ≡ all → IsIn some name → value name ≡ slice_index_or (map value some) (index_or_0 (index_from 0 all) name) 0
number_at value some more all name e here =
    let p = indexed 0 some name here in
    let t = index_tells 0 some name p.0 p.1 in
    let at : t.0 ≡ p.0 = omega (arith, t.1) in
    let stands : slice_get (map value some) p.0 ≡ Some (value name) = slice_get-map value some p.0 ∙ ap (option_map value) (subst (λ (j : ℕ). slice_get some j ≡ Some name) at t.2) in
    let found : index_from 0 all name ≡ Some p.0 = ap (λ (names : List (List ℕ)). index_from 0 names name) (sym e) ∙ index_front 0 some more name p.0 p.1 in
    let index : index_or_0 (index_from 0 all) name ≡ p.0 = ap (λ (o : Option ℕ). unwrap_or o 0) found in
    sym (ap (λ (k : ℕ). slice_index_or (map value some) k 0) index ∙ get_or_from_slice_get (map value some) p.0 (value name) 0 stands)

-- equations whose terms give the numbers of their names, where what they read stands at its index, give those numbers in turn
run_names : (memories : List (List ℕ)) (value : Valuation) (term : Assign → Term) (all some : List (List ℕ)) (assigns : List Assign) → some ++ names assigns ≡ all
    → ((i : ℕ) (a : Assign) → At assigns i a → (name : List ℕ) → Contains (names_read a.value) name → IsEarlier some assigns i name)
    → ((i : ℕ) (a : Assign) → At assigns i a → (numbers : List ℕ)
    → ((name : List ℕ) → Contains (names_read a.value) name → value name ≡ slice_index_or numbers (index_or_0 (index_from 0 all) name) 0) → term_number numbers memories (term a) ≡ value a.name)
    → run memories (map value some) (map term assigns) ≡ map value all
run_names memories value term all some [] e reads gives = ap (map value) (sym (append-nil some) ∙ e)
run_names memories value term all some (a ∷ assigns) e reads gives =
    let here : term_number (map value some) memories (term a) ≡ value a.name = gives 0 a refl (map value some) (λ name read. number_at value some (names (a ∷ assigns)) all name e (before name read)) in
    let next : map value some ++ term_number (map value some) memories (term a) ∷ [] ≡ map value (some ++ a.name ∷ []) =
    ap (λ (n : ℕ). map value some ++ n ∷ []) here ∙ sym (map-append value some (a.name ∷ [])) in
    ap (λ (numbers : List ℕ). run memories numbers (map term assigns)) next
    ∙ run_names memories value term all (some ++ a.name ∷ []) assigns (append_assoc some (a.name ∷ []) (names assigns) ∙ e) later (λ i b at. gives (suc i) b at)
  where
    before : (name : List ℕ) → Contains (names_read a.value) name → IsIn some name
    before name read = elim (reads 0 a refl name read) [
      | inl source ↦ source
      | inr earlier ↦ absurd (omega (arith, earlier.1))
    ]

    from : (i : ℕ) (name : List ℕ) (j : ℕ) → j < suc i → (b : Assign) → At (a ∷ assigns) j b → b.name ≡ name → IsEarlier (some ++ a.name ∷ []) assigns i name
    from i name zero lt b at same = inl (in_right some (a.name ∷ []) name (inl (sym same ∙ ap (λ (a : Assign). a.name) (sym (same_Some a b at)))))
    from i name (suc j) lt b at same = inr (j, omega (arith, lt), b, at, same)

    later : (i : ℕ) (b : Assign) → At assigns i b → (name : List ℕ) → Contains (names_read b.value) name → IsEarlier (some ++ a.name ∷ []) assigns i name
    later i b at name read = elim (reads (suc i) b at name read) [
      | inl source ↦ inl (in_left some (a.name ∷ []) name source)
      | inr earlier ↦ from i name earlier.0 earlier.1 earlier.2 earlier.3 earlier.4
    ]

-- what is read back from the indexes of names
read_back : (read : ℕ → ℕ) (index : List ℕ → ℕ) (value : Valuation) (names : List (List ℕ)) → ((name : List ℕ) → IsIn names name → value name ≡ read (index name)) → map read (map index names) ≡ map value names
read_back read index value [] each = refl
read_back read index value (name ∷ names) each = λ i. sym (each name (inl refl)) i ∷ read_back read index value names (λ other here. each other (inr here)) i

at_indexes : (P : ℕ → Type 0) (index : List ℕ → ℕ) (names : List (List ℕ)) → ((name : List ℕ) → IsIn names name → P (index name)) → AllByRecursion P (map index names)
at_indexes P index [] each = tt
at_indexes P index (name ∷ names) each = (each name (inl refl), at_indexes P index names (λ other here. each other (inr here)))

at_assign : (P : Assign → Type 0) (assigns : List Assign) (i : ℕ) (a : Assign) → AllByRecursion P assigns → At assigns i a → P a
at_assign P assigns i a all at = subst P (get_or_from_slice_get assigns i a a at) (All-from_recursion P assigns all i a (slice_get_within assigns i a at))

-- outputs

output-is_readable : (s : Sort) → is_output s ≡ true → is_readable s ≡ true
output-is_readable sort.Output e = refl
output-is_readable sort.Input e = absurd (cc e)
output-is_readable sort.Clock e = absurd (cc e)
output-is_readable sort.Wire e = absurd (cc e)
output-is_readable sort.Reg e = absurd (cc e)
output-is_readable (sort.Memory last) e = absurd (cc e)

output_bits : (s : Sort) (width : ℕ) → is_output s ≡ true → nat_le width (most_bits s) ≡ true → width ≤ 64
output_bits sort.Output width e narrow = at_most width 64 (omega arith) narrow
  where
    at_most : (width most : ℕ) → most ≤ 64 → nat_le width most ≡ true → width ≤ 64
    at_most width most h narrow = let small : width ≤ most = search rules in omega (arith, small, h)
output_bits sort.Input width e narrow = absurd (cc e)
output_bits sort.Clock width e narrow = absurd (cc e)
output_bits sort.Wire width e narrow = absurd (cc e)
output_bits sort.Reg width e narrow = absurd (cc e)
output_bits (sort.Memory last) width e narrow = absurd (cc e)

-- the solution for what is kept and a row: its sources, and then the equations in turn
abbrev pub the_value : Module → List ℕ → Kept → List ℕ → Valuation
the_value m order kept row = solved m kept (given_by (sources m) (row ++ kept.numbers)) (ordered m order)

-- its numbers, in the order of the names whose numbers are known
abbrev pub the_numbers : Module → List ℕ → Kept → List ℕ → List ℕ
the_numbers m order kept row = map (the_value m order kept row) (known m order)

module _ (m : Module) (order : List ℕ) (broken : first_broken m ≡ None) (is : IsOrder m order) where
  -- the names whose numbers are known differ
  pub known_differ : all_differ (known m order) ≡ true
  known_differ =
      let k = keeps m order broken is in
      all_differ_is (known m order)
      (differ_both (sources m) (names (ordered m order)) (sources_apart m order broken is) (differ_by_index (ordered m order) k.differ)
      (λ name source there. let a = at_index (ordered m order) name there in k.fresh a.0 a.1 a.2 (subst (IsIn (sources m)) (sym a.3) source)))

  -- a name that an expression may read is known
  is_known : (name : List ℕ) → is_of is_readable (sort_of m) name ≡ true → IsIn (known m order) name
  is_known name readable = elim (given m order broken is name readable) [
    | inl source ↦ in_left (sources m) (names (ordered m order)) name source
    | inr there ↦ in_right (sources m) (names (ordered m order)) name there
  ]

  -- the words of a memory stand at its index
  words_at : (kept : Kept) (name : List ℕ) → is_of is_memory (sort_of m) name ≡ true → slice_index_or kept.memories (index_or_0 (index_from 0 (names_of is_memory m)) name) [] ≡ memory_words m kept name
  words_at kept name memory =
      let f = found_of m order broken is is_memory name memory in
      let p = indexed 0 (names_of is_memory m) name (found_in is_memory (things m) name f.0 f.1 f.2) in
      subst (λ (o : Option ℕ). slice_index_or kept.memories (unwrap_or o 0) [] ≡ unwrap_or (option_and_then (slice_get kept.memories) o) []) (sym p.1) (sym (unwrap_or-slice_get kept.memories p.0 []))

  output_readable : (name : List ℕ) → IsIn (names_of is_output m) name → is_of is_readable (sort_of m) name ≡ true
  output_readable name here =
      let f = found_name m order broken is is_output name here in
      of_found m order broken is is_readable name f.0 f.1 ∙ output-is_readable f.0.sort f.2

  output_width : (name : List ℕ) → IsIn (names_of is_output m) name → width_of m name ≤ 64
  output_width name here =
      let f = found_name m order broken is is_output name here in
      let width : width_of m name ≡ range_width f.0.high = ap (λ (o : Option Thing). unwrap_or (option_map (λ (t : Thing). range_width t.high) o) 0) f.1 in
      let bits : range_width f.0.high ≤ 64 = output_bits f.0.sort (range_width f.0.high) f.2 (found_passes is_narrow (things m) name f.0 all f.1) in
      subst (λ (w : ℕ). w ≤ 64) (sym width) bits
    where
      all : list_all is_narrow (things m) ≡ true
      all =
          list_all-append is_narrow (map port_thing m.ports) (map decl_thing m.decls)
          ∙ (rw (list_all-map is_narrow port_thing m.ports, list_all-map is_narrow decl_thing m.decls) (kept_rules m order broken is).narrow)

  module _ (kept : Kept) (of : IsOf m kept) (row : List ℕ) (inputs : AreNumbers (lines_of is_input m) row) where
    pub is_the_solution : IsTheSolution m kept row (the_value m order kept row)
    is_the_solution = TheSolution-ordered m kept row (ordered m order) (are_ordered m order broken is kept of) inputs of.numbers

    value_within : (name : List ℕ) → is_of is_readable (sort_of m) name ≡ true → the_value m order kept row name < 2 ^ width_of m name
    value_within name readable = within_at m order broken is (the_value m order kept row) is_the_solution.solves.within name readable

    -- where what an expression reads stands at its index, its term has its number
    term_over : (numbers : List ℕ) (e : Expr) (w : ℕ) → reads_declared (sort_of m) e ≡ true → expr_width (width_of m) e ≡ Some w
        → ((name : List ℕ) → Contains (names_read e) name → the_value m order kept row name ≡ slice_index_or numbers (index_or_0 (index_from 0 (known m order)) name) 0)
        → term_number numbers kept.memories (term_of m order e) ≡ number_of m kept (the_value m order kept row) e
    term_over numbers e w declared wide stand =
        (resolved_is m kept (the_value m order kept row) e w numbers (index_from 0 (known m order)) (index_from 0 (names_of is_memory m))
        (narrow_widths m (kept_rules m order broken is).narrow) (words_within m order broken is kept of) (words_at kept) declared wide
        (λ name read. value_within name (reads_readable (sort_of m) e declared name read)) stand).same

    -- a readable name's number stands at its index
    number_stands : (name : List ℕ) → is_of is_readable (sort_of m) name ≡ true
        → the_value m order kept row name ≡ slice_index_or (the_numbers m order kept row) (index_or_0 (index_from 0 (known m order)) name) 0
    number_stands name readable = number_at (the_value m order kept row) (known m order) [] (known m order) name (append-nil (known m order)) (is_known name readable)

    -- over the numbers of the solution the term of an expression has the number of the expression
    pub term_is : (e : Expr) (w : ℕ) → reads_declared (sort_of m) e ≡ true → expr_width (width_of m) e ≡ Some w
        → term_number (the_numbers m order kept row) kept.memories (term_of m order e) ≡ number_of m kept (the_value m order kept row) e
    term_is e w declared wide = term_over (the_numbers m order kept row) e w declared wide (λ name read. number_stands name (reads_readable (sort_of m) e declared name read))

    -- the numbers of the equations in turn are those of the solution
    pub run_is : run kept.memories (row ++ kept.numbers) (machine_of m order).equations ≡ the_numbers m order kept row
    run_is =
        let value = the_value m order kept row in
        let k = keeps m order broken is in
        let s = is_the_solution.solves in
        let start : map value (sources m) ≡ row ++ kept.numbers = map-append value (names_of is_input m) (names_of is_reg m) ∙ (rw (s.inputs, s.registers) refl) in
        ap (λ (numbers : List ℕ). run kept.memories numbers (machine_of m order).equations) (sym start)
        ∙ run_names kept.memories value (λ (a : Assign). term_of m order a.value) (known m order) (sources m) (ordered m order) refl k.reads
        (λ i a at numbers stand.
        let index = slice_index order i in
        let there = (to_module m order broken is i a at).1 in
        term_over numbers a.value (width_of m a.name) (declared_at m order broken is index a there) (k.width i a at) stand
        ∙ sym (at_assign (λ (a : Assign). value a.name ≡ number_of m kept value a.value) m.assigns index a s.equations there))

    -- the numbers at the indexes of the outputs are theirs
    pub outputs_are : map (λ (index : ℕ). slice_index_or (the_numbers m order kept row) index 0) (machine_of m order).outputs ≡ map (the_value m order kept row) (names_of is_output m)
    outputs_are =
        read_back (λ (index : ℕ). slice_index_or (the_numbers m order kept row) index 0) (index_or_0 (index_from 0 (known m order))) (the_value m order kept row) (names_of is_output m)
        (λ name here. number_stands name (output_readable name here))

    -- the numbers at the indexes of the outputs fit 64 bits
    pub outputs_small : All (λ (index : ℕ). slice_index_or (the_numbers m order kept row) index 0 < 2 ^ 64) (machine_of m order).outputs
    outputs_small =
        let small = λ (index : ℕ). slice_index_or (the_numbers m order kept row) index 0 < 2 ^ 64 in
        All-from_recursion small (machine_of m order).outputs
        (at_indexes small (index_or_0 (index_from 0 (known m order))) (names_of is_output m)
        (λ name here.
        let readable = output_readable name here in
        subst (λ (n : ℕ). n < 2 ^ 64) (number_stands name readable) (below_more (the_value m order kept row name) (width_of m name) 64 (value_within name readable) (output_width name here))))
