-- What an exported module prints on rows is that of the static rows.
use Rattle.std.proofs.Common.{◌≡◌, ℕ, ◌≤◌, Bool, true, false, List, [], ◌∷◌, length, Option, Some, refl, sym, ap, subst, ◌∙◌}
use Rattle.std.specs.Prelude.{nat_lt, MatchBool, All}
use Rattle.std.specs.List.{AllByRecursion, zip}
use Rattle.std.proofs.lemmas.Bool.{ltb-false}
use Rattle.std.proofs.lemmas.List.Elements.{All-head, All-tail}
use Rattle.lg_export.specs.Agreement.{Rows, numbers_of}
use Rattle.lg_export.specs.Layout.{module_of}
use Rattle.lg_export.proofs.Agreeing.{words_for, some_rows, from_start, agrees}
use Rattle.lg_export.proofs.Declared.{inputs-are}
use Rattle.lg_export.proofs.Shallow.{shallow}
use Rattle.lg_netlist.specs.declared.netlist.Netlist.{Netlist}
use Rattle.lg_netlist.specs.Acceptance.{IsAccepted}
use Rattle.lg_netlist.specs.Static.{has_no_clock, start_states}
use Rattle.lg_netlist.specs.Static as static
use Rattle.lg_vtree.specs.Grammar.{IsModuleText}
use Rattle.lg_vtree.specs.declared.module.Module.{Module}
use Rattle.lg_vmeaning.specs.Rows.{start, AreRows}
use Rattle.lg_vmeaning.specs.Solution.{AreNumbers}
use Rattle.lg_vmeaning.specs.Valid.{IsValid}
use Rattle.lg_vrules.specs.Things.{lines_of, is_input}
use Rattle.lg_vrows.specs.Due.{IsValidText, IsRowsText}
use Rattle.lg_vrows.specs.Text.{rows_text}
use Rattle.lg_vrows.proofs.InputLemmas.{rows_fit}
use Rattle.lg_vrows.proofs.OneModule.{one_valid}
use Rattle.lg_vrows.proofs.OneRows.{one_rows}
use Rattle.lg_vrows.proofs.OneVector.{vector_wide}
use Rattle.lg_vrows.proofs.PortLemmas.{pins_differ}
use Rattle.lg_run.specs.declared.status.Status.{Status}
use Rattle.lg_run.specs.declared.stop.Refusal.TheVariants.{TooLong}
use Rattle.lg_run.specs.declared.stop.Stop.TheVariants.{Input}
use Rattle.lg_run.specs.declared.vrun.TheConstants.{MODULE_LENGTH, ROWS_LENGTH}
use Rattle.lg_run.specs.Contents.{Held}
use Rattle.lg_run.specs.Due.{Due, Writes, Stops, IsOutputsDue, IsRowsDue, IsValidDue, OnModule, NoModule, IsVrunDue, IsDueFor, IsDue}
use Rattle.lg_run.specs.StaticText.{IsStaticText}
use Rattle.lg_run.specs.Words.{Command, Vrun, command_of}

module _ (n : Netlist) (none : has_no_clock n ≡ true) (accepted : IsAccepted n) where
  abbrev m : Module
  m = module_of n

  -- numbers that fit the inputs are those of words
  words_of : (inputs : List (List ℕ)) → All (AreNumbers (lines_of is_input m)) inputs → (rows : Rows) × AllByRecursion (static.IsDefinedRow (static.input_pins n)) rows × (numbers_of rows ≡ inputs)
  words_of [] fit = ([], tt, refl)
  words_of (row ∷ inputs) fit =
      let first = words_for n none accepted (static.input_pins n) row (subst (λ (lines : List (List ℕ × ℕ)). AreNumbers lines row) (inputs-are n none) (All-head (AreNumbers (lines_of is_input m)) row inputs fit)) in
      let rest = words_of inputs (All-tail (AreNumbers (lines_of is_input m)) row inputs fit) in
      (first.0 ∷ rest.0, (first.1, rest.1), λ i. first.2 i ∷ rest.2 i)

  static_text : IsValid m → (bytes text : List ℕ) → IsRowsText m bytes text → IsStaticText n bytes text
  static_text valid bytes text (outs, are, printed) =
      let fit = rows_fit (lines_of is_input m) are.given.columns are.given.indexes (pins_differ m valid) are.given.bound are.given.whole are.given.rows are.inputs (vector_wide bytes are.given.columns are.given.rows are.given.says) are.are_inputs in
      let words = words_of are.inputs fit in
      let some = some_rows n none accepted (start_states n) words.0 words.1 in
      let follows = from_start n none accepted words.0 some.0 words.1 some.1 in
      let same : outs ≡ numbers_of some.0 = one_rows m valid (start m) are.inputs outs (numbers_of some.0) are.outputs (subst (λ (inputs : List (List ℕ)). AreRows m (start m) inputs (numbers_of some.0)) words.2 follows.1) in
      record {
        given = are.given;
        defined = are.defined;
        rows = words.0;
        are_rows = words.1;
        are_inputs = rw words.2 are.are_inputs;
        outs = some.0;
        static_rows = some.1;
        outs_defined = follows.0;
        printed = printed ∙ ap (rows_text m) same;
      }

-- a text of the module that is not too long is read as it
pub read_again : (n : Netlist) (text : List ℕ) → has_no_clock n ≡ true → IsAccepted n → IsModuleText text (module_of n) → length text ≤ 134217728 → IsValidText text (module_of n)
read_again n text none accepted is_text fits = record { within = record { text = is_text; length = fits; depth = shallow n none accepted }; valid = (agrees n none accepted).valid }

-- what is due for such a text and rows
module _ (n : Netlist) (text : List ℕ) (none : has_no_clock n ≡ true) (accepted : IsAccepted n) (is_text : IsModuleText text (module_of n)) (of_module of_rows rows : List ℕ) (status : Status) (printed : List ℕ) where
  abbrev Shown : Type 0
  Shown = IsStaticText n rows printed

  shown : length text ≤ MODULE_LENGTH → (m : Module) → IsValidText text m → IsRowsText m rows printed → Shown
  shown fits m valid is =
      let same : m ≡ module_of n = one_valid text m (module_of n) valid (read_again n text none accepted is_text fits) in
      static_text n none accepted (agrees n none accepted).valid rows printed (subst (λ (m : Module). IsRowsText m rows printed) same is)

  by_rows : length text ≤ MODULE_LENGTH → (m : Module) → IsValidText text m → (long : Bool)
      → MatchBool long (◌≡◌ {A = Due} (Writes status printed) (Stops (Input TooLong) of_rows)) (IsOutputsDue m of_rows rows (Writes status printed)) → Shown
  by_rows fits m valid true h = absurd (cc h)
  by_rows fits m valid false h = shown fits m valid h.1

  by_module : length text ≤ MODULE_LENGTH → IsValidDue of_module of_rows text (Some rows) (Writes status printed) → Shown
  by_module fits (OnModule m valid h) = by_rows fits m valid (nat_lt ROWS_LENGTH (length rows)) h
  by_module fits (NoModule fault is d e) = absurd (cc e)

  by_length : (long : Bool) → nat_lt MODULE_LENGTH (length text) ≡ long
      → MatchBool long (◌≡◌ {A = Due} (Writes status printed) (Stops (Input TooLong) of_module)) (IsValidDue of_module of_rows text (Some rows) (Writes status printed)) → Shown
  by_length true e h = absurd (cc h)
  by_length false e h = by_module (ltb-false MODULE_LENGTH (length text) e) h

  of_due : (held : Held) → held of_module ≡ Some text → held of_rows ≡ Some rows → IsDueFor (Some (Vrun of_module of_rows)) (Some held) (Writes status printed) → Shown
  of_due held has_module has_rows (found, others, finds, finds_rows, h) =
      let on_rows = subst (λ (o : Option (List ℕ)). IsVrunDue of_module of_rows found o (Writes status printed)) (sym finds_rows ∙ has_rows) h in
      let on_both = subst (λ (o : Option (List ℕ)). IsVrunDue of_module of_rows o (Some rows) (Writes status printed)) (sym finds ∙ has_module) on_rows in
      by_length (nat_lt MODULE_LENGTH (length text)) refl on_both

pub due_is_static : (n : Netlist) (text : List ℕ) → has_no_clock n ≡ true → IsAccepted n → IsModuleText text (module_of n)
    → (words : List (List ℕ)) (held : Held) (of_module of_rows rows : List ℕ) → command_of words ≡ Some (Vrun of_module of_rows) → held of_module ≡ Some text → held of_rows ≡ Some rows
    → (status : Status) (printed : List ℕ) → IsDue words (Some held) (Writes status printed) → IsStaticText n rows printed
due_is_static n text none accepted is_text words held of_module of_rows rows asked has_module has_rows status printed due =
    of_due n text none accepted is_text of_module of_rows rows status printed held has_module has_rows (subst (λ (c : Option Command). IsDueFor c (Some held) (Writes status printed)) asked due)
