-- The module of an accepted netlist agrees with it: it is valid, and row by row its outputs are those of the static values.
use Rattle.std.proofs.Common.{◌≡◌, ℕ, zero, suc, ◌<◌, true, false, List, [], ◌∷◌, length, map, Option, None, refl, sym, ap, subst, ◌∙◌, arith, inl, inr}
use Rattle.std.proofs.Math.Nat.{mod-eq_of_lt}
use Rattle.std.specs.Prelude.{filter_map, zip}
use Rattle.std.specs.List.{AllByRecursion}
use Rattle.lg_value.specs.declared.bit.Bit.{Bit}
use Rattle.lg_value.specs.Word.{IsDefined, number_of as word_number, word_of_number}
use Rattle.lg_value.proofs.WordLemmas.{length-word_of_number, number_of-word_of_number, IsDefined-word_of_number}
use Rattle.lg_netlist.specs.declared.netlist.PinUse.{PinUse}
use Rattle.lg_netlist.specs.declared.netlist.Netlist.{Netlist}
use Rattle.lg_netlist.specs.Acceptance.{IsAccepted, is_undriven}
use Rattle.lg_netlist.specs.Cell.{State}
use Rattle.lg_netlist.specs.Static.{input_pins, output_pins, has_no_clock, word_on, start_states, states_after, output_words, AreStaticValues, AreTheStaticValues, AreStaticRows, IsDefinedRow}
use Rattle.lg_netlist.proofs.Ranks.{HasRanks, ranks, none_on_cycle}
use Rattle.lg_netlist.proofs.StaticLemmas.{static_values}
use Rattle.lg_vtree.specs.declared.module.Assign.{Assign}
use Rattle.lg_vtree.specs.declared.module.Decl.{Decl}
use Rattle.lg_vtree.specs.declared.module.Module.{Module}
use Rattle.lg_vrules.specs.declared.names.Sort.TheVariants as sort
use Rattle.lg_vrules.specs.declared.names.Thing.{Thing}
use Rattle.lg_vrules.specs.Things.{lines_of, names_of, is_input, is_output, is_memory}
use Rattle.lg_vmachine.specs.Kept.{Kept}
use Rattle.lg_vresolve.specs.Meaning.{Valuation, number_of}
use Rattle.lg_vresolve.proofs.TermLemmas.{reads_only}
use Rattle.lg_vmeaning.specs.InOrder.{IsIn}
use Rattle.lg_vmeaning.specs.Rows.{start, start_number, start_memory, number_after, words_after, after_edge, AreRows}
use Rattle.lg_vmeaning.specs.Solution.{AreNumbers, AreMemories, IsOf, IsSolution, AgreeOn, IsTheSolution}
use Rattle.lg_export.specs.Agreement.{Rows, numbers_of, Agrees}
use Rattle.lg_export.specs.Layout.{input_name, output_wire, module_assigns, module_of}
use Rattle.lg_export.proofs.Acyclic.{Rank, earlier, ranked, x_made, w_made, o_made, acyclic}
use Rattle.lg_export.proofs.Declared.{pin_thing, x_thing, w_thing, all_things, line_of, inputs-are, input_names-are, readable-are, no_registers, no_memories}
use Rattle.lg_export.proofs.Gates.{IsDefinedBit}
use Rattle.lg_export.proofs.Given.{x_assign, w_assign, o_assign, given}
use Rattle.lg_export.proofs.Items.{IsItem, item_of_map, map_item, each_item, at_each}
use Rattle.lg_export.proofs.Named.{item_in, FromInput, FromOutput, FromX, FromW, Origin, origin, only_index}
use Rattle.lg_export.proofs.Pins.{part_fits}
use Rattle.lg_export.proofs.Solves.{valuation, defined_word, solves, gives}
use Rattle.lg_export.proofs.Sources.{pin_driven}
use Rattle.lg_export.proofs.Valid.{keeps_rules, decl_is}

-- the words of each pin
abbrev pub Words : Type 0
Words = List (List Bit)

-- nothing is kept
abbrev pub nothing : Kept
nothing = record { numbers = []; memories = [] }

module _ (n : Netlist) (clockless : has_no_clock n ≡ true) (accepted : IsAccepted n) where
  abbrev m : Module
  m = module_of n

  abbrev order : HasRanks n
  order = ranks n (none_on_cycle n accepted)

  -- ---- there is one solution

  module _ (kept : Kept) (row : List ℕ) (v w : Valuation) (sv : IsSolution m kept row v) (sw : IsSolution m kept row w) where
    same_at : (names : List (List ℕ)) → map v names ≡ map w names → (name : List ℕ) → IsIn names name → v name ≡ w name
    same_at [] e name here = absurd here
    same_at (other ∷ names) e name (inl f) = ap v f ∙ (head_is (v other) (w other) (map v names) (map w names) e ∙ sym (ap w f))
      where
        head_is : (a b : ℕ) (xs ys : List ℕ) → a ∷ xs ≡ b ∷ ys → a ≡ b
        head_is a b xs ys e = cc
    same_at (other ∷ names) e name (inr here) = same_at names (tail_is (v other) (w other) (map v names) (map w names) e) name here
      where
        tail_is : (a b : ℕ) (xs ys : List ℕ) → a ∷ xs ≡ b ∷ ys → xs ≡ ys
        tail_is a b xs ys e = cc

    same_input : (name : List ℕ) → IsIn (map input_name (input_pins n)) name → v name ≡ w name
    same_input name here =
        same_at (map input_name (input_pins n)) (subst (λ (names : List (List ℕ)). map v names ≡ map w names) (input_names-are n clockless) (sv.inputs ∙ sym sw.inputs)) name here

    holds : (u : Valuation) → IsSolution m kept row u → (a : Assign) → IsItem (module_assigns n) a → u a.name ≡ number_of m kept u a.value
    holds u su a here = at_each (λ (a : Assign). u a.name ≡ number_of m kept u a.value) (module_assigns n) su.equations a here

    same_made : (bound rank : ℕ) → rank < bound → (a : Assign) → IsItem (module_assigns n) a → Rank n order a.name rank → v a.name ≡ w a.name
    same_made zero rank less a here ranked = absurd (omega (arith, less))
    same_made (suc bound) rank less a here ranked =
        holds v sv a here
        ∙ (reads_only m kept v w a.value
        (λ name read. elim (earlier n clockless accepted order a (given n a here) rank ranked name read) [
          | inl input ↦ same_input name input
          | inr lower ↦ subst (λ (name : List ℕ). v name ≡ w name) lower.3.2 (same_made bound lower.0 (omega (arith, lower.1, less)) lower.3.0 lower.3.1 (subst (λ (name : List ℕ). Rank n order name lower.0) (sym lower.3.2) lower.2))
        ])
        ∙ sym (holds w sw a here))

    same_assign : (a : Assign) → IsItem (module_assigns n) a → v a.name ≡ w a.name
    same_assign a here = let r = ranked n clockless accepted order a (given n a here) in same_made (suc r.0) r.0 (omega arith) a here r.1

    same_thing : (t : List ℕ × Thing) → Origin (pin_thing sort.Input) (pin_thing sort.Output) x_thing w_thing n t → v t.0 ≡ w t.0
    same_thing t (FromInput p here) = same_input (input_name p) (item_in (map input_name (input_pins n)) (input_name p) (map_item input_name (input_pins n) p here))
    same_thing t (FromOutput p here) = same_assign (o_assign n p) (o_made n clockless accepted order p here)
    same_thing t (FromX k p i at here) = same_assign (x_assign n k i) (x_made n clockless accepted order k p i at here)
    same_thing t (FromW k p o at here) =
        subst (λ (output : ℕ). v (output_wire k output) ≡ w (output_wire k output)) (sym (only_index p.outputs o (part_fits n k p at).gives here)) (same_assign (w_assign k p) (w_made n clockless accepted order k p at))

    pub agree_on : AgreeOn m v w
    agree_on =
        subst (AllByRecursion (λ (l : List ℕ × ℕ). v l.0 ≡ w l.0)) (sym (readable-are n))
        (each_item (λ (l : List ℕ × ℕ). v l.0 ≡ w l.0) (map line_of (all_things n))
        (λ l here.
        let r = item_of_map line_of (all_things n) l here in
        subst (λ (l : List ℕ × ℕ). v l.0 ≡ w l.0) (sym r.2) (same_thing r.0 (origin (pin_thing sort.Input) (pin_thing sort.Output) x_thing w_thing n r.0 r.1))))

  -- ---- a row

  module _ (states : List State) (row : Words) (row_defined : IsDefinedRow (input_pins n) row) (v : ℕ → Bit) (static : AreStaticValues n states row v) (defined : (net : ℕ) → is_undriven n net ≡ false → IsDefinedBit (v net)) where
    pub solution : IsTheSolution m nothing (map word_number row) (valuation n states v)
    solution =
        let solved = solves n clockless accepted states row v static row_defined defined in
        record { solves = solved; only = λ other other_solves. agree_on nothing (map word_number row) (valuation n states v) other solved other_solves }

    row_gives : map (valuation n states v) (names_of is_output m) ≡ map word_number (output_words n v)
    row_gives = gives n clockless accepted states row v static row_defined defined

    outputs_defined : AllByRecursion IsDefined (output_words n v)
    outputs_defined = each_item IsDefined (output_words n v) (λ word here.
        let r = item_of_map (λ (p : PinUse). word_on v p.bits) (output_pins n) word here in
        subst IsDefined (sym r.2) (defined_word v r.0.bits (λ net on. defined net (pin_driven n clockless accepted r.0 r.1 net on))))

  -- ---- nothing is kept

  none_kept : {A : Type 0} (f : Decl → Option A) (decls : List Decl) → ((d : Decl) → IsItem decls d → f d ≡ None) → filter_map f decls ≡ []
  none_kept f [] none = refl
  none_kept f (d ∷ decls) none = rw (none d (inl refl)) (none_kept f decls (λ e here. none e (inr here)))

  start-is : start m ≡ nothing
  start-is = same_kept (filter_map start_number m.decls) (filter_map (start_memory m) m.decls)
      (none_kept start_number m.decls (λ d here. ap start_number (decl_is n clockless accepted d here).1))
      (none_kept (start_memory m) m.decls (λ d here. ap (start_memory m) (decl_is n clockless accepted d here).1))
    where
      same_kept : (numbers : List ℕ) (memories : List (List ℕ)) → numbers ≡ [] → memories ≡ [] → record { numbers = numbers; memories = memories } ≡ nothing
      same_kept numbers memories e f = cc

  after-is : (value : Valuation) → after_edge m nothing value ≡ nothing
  after-is value =
      ap (λ (lines : List (List ℕ × ℕ)). record { numbers = map (number_after m nothing value) (zip (map (λ (l : List ℕ × ℕ). l.0) lines) []); memories = map (words_after m nothing value) (zip (names_of is_memory m) []) }) (no_registers n)
      ∙ ap (λ (lines : List (List ℕ × ℕ)). record { numbers = []; memories = map (words_after m nothing value) (zip (map (λ (l : List ℕ × ℕ). l.0) lines) []) }) (no_memories n)

  kept-is : (kept : Kept) → IsOf m kept → kept ≡ nothing
  kept-is kept of = same_kept kept (no_numbers kept.numbers (subst (λ (lines : List (List ℕ × ℕ)). AreNumbers lines kept.numbers) (no_registers n) of.numbers)) (no_words kept.memories (subst (λ (lines : List (List ℕ × ℕ)). AreMemories m lines kept.memories) (no_memories n) of.memories))
    where
      same_kept : (kept : Kept) → kept.numbers ≡ [] → kept.memories ≡ [] → kept ≡ nothing
      same_kept kept e f = λ i. record { numbers = e i; memories = f i }

      no_numbers : (numbers : List ℕ) → AreNumbers [] numbers → numbers ≡ []
      no_numbers [] h = refl
      no_numbers (k ∷ numbers) h = absurd h

      no_words : (memories : List (List ℕ)) → AreMemories m [] memories → memories ≡ []
      no_words [] h = refl
      no_words (words ∷ memories) h = absurd h

  -- ---- rows

  pub some_rows : (states : List State) (rows : Rows) → AllByRecursion (IsDefinedRow (input_pins n)) rows → (outs : Rows) × AreStaticRows n states rows outs
  some_rows states [] defined = ([], tt)
  some_rows states (row ∷ rows) defined =
      let found = static_values n states row clockless accepted defined.0 in
      let rest = some_rows (states_after n found.value states) rows defined.1 in
      (output_words n found.value ∷ rest.0, (found.value, found.the, refl, rest.1))

  -- all static values are defined where something drives the net
  known : (states : List State) (row : Words) → IsDefinedRow (input_pins n) row → (v : ℕ → Bit) → AreTheStaticValues n states row v → (net : ℕ) → is_undriven n net ≡ false → IsDefinedBit (v net)
  known states row row_defined v the net driven =
      let found = static_values n states row clockless accepted row_defined in
      subst IsDefinedBit (the.only found.value found.the.are net driven) (found.defined net driven)

  -- the module follows static rows
  follows : (states : List State) (rows outs : Rows) → AllByRecursion (IsDefinedRow (input_pins n)) rows → AreStaticRows n states rows outs
      → AllByRecursion (AllByRecursion IsDefined) outs × AreRows m nothing (numbers_of rows) (numbers_of outs)
  follows states [] [] defined static = (tt, tt)
  follows states [] (out ∷ outs) defined static = absurd static
  follows states (row ∷ rows) [] defined static = absurd static
  follows states (row ∷ rows) (out ∷ outs) defined (v, the, told, static) =
      let sure = known states row defined.0 v the in
      let rest = follows (states_after n v states) rows outs defined.1 static in
      let val = valuation n states v in (
        (subst (AllByRecursion IsDefined) told (outputs_defined states row defined.0 v the.are sure), rest.0),
        (
          val,
          solution states row defined.0 v the.are sure,
          row_gives states row defined.0 v the.are sure ∙ ap (map word_number) told,
          subst (λ (kept : Kept). AreRows m kept (numbers_of rows) (numbers_of outs)) (sym (after-is val)) rest.1,
        ),
      )

  pub from_start : (rows outs : Rows) → AllByRecursion (IsDefinedRow (input_pins n)) rows → AreStaticRows n (start_states n) rows outs
      → AllByRecursion (AllByRecursion IsDefined) outs × AreRows m (start m) (numbers_of rows) (numbers_of outs)
  from_start rows outs defined static =
      let f = follows (start_states n) rows outs defined static in
      (f.0, subst (λ (kept : Kept). AreRows m kept (numbers_of rows) (numbers_of outs)) (sym start-is) f.1)

  -- ---- all numbers are numbers of words

  pub words_for : (pins : List PinUse) (row : List ℕ) → AreNumbers (map (λ (p : PinUse). (input_name p, length p.bits)) pins) row → (words : Words) × IsDefinedRow pins words × (map word_number words ≡ row)
  words_for [] [] numbers = ([], tt, refl)
  words_for [] (k ∷ row) numbers = absurd numbers
  words_for (p ∷ pins) [] numbers = absurd numbers
  words_for (p ∷ pins) (k ∷ row) numbers =
      let rest = words_for pins row numbers.1 in
      let word = word_of_number (length p.bits) k in (
        word ∷ rest.0,
        (IsDefined-word_of_number (length p.bits) k, length-word_of_number (length p.bits) k, rest.1),
        cons_numbers (word_number word) k (map word_number rest.0) row (number_of-word_of_number (length p.bits) k ∙ mod-eq_of_lt numbers.0) rest.2,
      )
    where
      cons_numbers : (a b : ℕ) (xs ys : List ℕ) → a ≡ b → xs ≡ ys → a ∷ xs ≡ b ∷ ys
      cons_numbers a b xs ys e f = cc

  has_one : (kept : Kept) (row : List ℕ) → IsOf m kept → AreNumbers (lines_of is_input m) row → (value : Valuation) × IsTheSolution m kept row value
  has_one kept row of numbers =
      let words = words_for (input_pins n) row (subst (λ (lines : List (List ℕ × ℕ)). AreNumbers lines row) (inputs-are n clockless) numbers) in
      let found = static_values n [] words.0 clockless accepted words.1 in
      let val = valuation n [] found.value in
      (val, subst (λ (kept : Kept). IsTheSolution m kept row val) (sym (kept-is kept of)) (subst (λ (row : List ℕ). IsTheSolution m nothing row val) words.2 (solution [] words.0 words.1 found.value found.the.are found.defined)))

  pub agrees : Agrees n m
  agrees = record {
    valid = record { rules = keeps_rules n clockless accepted; acyclic = acyclic n clockless accepted order };
    one_solution = has_one;
    rows = λ rows defined.
        let some = some_rows (start_states n) rows defined in
        let f = from_start rows some.0 defined some.1 in
        record { outputs = some.0; static = some.1; defined = f.0; same = f.1 };
  }
