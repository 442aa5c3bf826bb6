-- What an edge stores: registers and memories stay of their module, and the machine stores what the module does.
use Rattle.std.proofs.Common.{◌≡◌, ℕ, suc, ◌+◌, ◌<◌, ◌^◌, nat_eq, Bool, true, false, cond, ◌&&◌, List, [], ◌∷◌, length, map, Option, Some, None, refl, ap, subst, ◌∙◌, arith, rules, inl, inr}
use Rattle.std.specs.Prelude.{option_map, unwrap_or, is_some, zip, slice_set}
use Rattle.std.specs.List.{list_all}
use Rattle.std.specs.Str.{bytes_eq}
use Rattle.std.proofs.lemmas.Bool.{and_parts}
use Rattle.std.proofs.lemmas.List.{length-set}
use Rattle.std.proofs.lemmas.Slice.Eq.{bytes_eq-Decides}
use Rattle.lg_vtree.specs.declared.expr.Expr.{Expr}
use Rattle.lg_vtree.specs.declared.module.Stmt.{Stmt}
use Rattle.lg_vtree.specs.declared.module.Stmt.TheVariants as stmt
use Rattle.lg_vtree.specs.declared.module.Module.{Module}
use Rattle.lg_vrules.specs.Things.{sort_of, width_of, lines_of, names_of, is_input, is_reg, is_memory}
use Rattle.lg_vrules.specs.Order.{IsOrder}
use Rattle.lg_vrules.specs.Rules.{is_of, is_no_clock, assign_uses, stmt_uses, reads_declared, expr_width, is_width, stmt_fits, last_address, stmts_of, stored_name, first_broken}
use Rattle.lg_vrules.proofs.NameIndexLemmas.{narrow_widths}
use Rattle.lg_vrules.proofs.RuleLemmas.{rules_kept}
use Rattle.lg_vmachine.specs.Kept.{Kept}
use Rattle.lg_vresolve.specs.Meaning.{Valuation, number_of}
use Rattle.lg_vmachine.specs.Terms.{term_number}
use Rattle.lg_vmachine.specs.Machine.{next_number, written, put_word, put_words, stored_by}
use Rattle.lg_vmachine.specs.declared.term.Term.{Term}
use Rattle.lg_vmachine.specs.declared.machine.Write.{Write}
use Rattle.lg_vresolve.proofs.FitLemmas.{fits}
use Rattle.lg_vresolve.proofs.ReadLemmas.{reads_readable}
use Rattle.lg_vmeaning.specs.Compiled.{term_of, next_of, write_of, machine_of}
use Rattle.lg_vmeaning.specs.Rows.{stmt_for, number_after, words_after, after_edge}
use Rattle.lg_vmeaning.specs.Solution.{AreNumbers, AreMemories, IsOf, IsTheSolution}
use Rattle.lg_vmeaning.proofs.NameLemmas.{IsLine}
use Rattle.lg_vmeaning.proofs.StartLemmas.{find_passes, AllBelow, set_below, parts_fit}
use Rattle.lg_vmeaning.proofs.ValidLemmas.{line_width, words_within, within_at}

-- statements

-- a width that passes the test is the wanted one
width_is : (o : Option ℕ) (wanted : ℕ) → unwrap_or (option_map (λ (w : ℕ). nat_eq w wanted) o) false ≡ true → o ≡ Some wanted
width_is None wanted e = absurd (cc e)
width_is (Some w) wanted e = let same : w ≡ wanted = search rules in ap Some same

-- a width that is there
some_width : (o : Option ℕ) → is_some o ≡ true → (w : ℕ) × (o ≡ Some w)
some_width None e = absurd (cc e)
some_width (Some w) e = (w, refl)

-- the expression reads what is declared, and has this width
pub record IsExpr (m : Module) (e : Expr) (width : ℕ) : Type 0 where
  pub reads : reads_declared (sort_of m) e ≡ true
  pub is_wide : expr_width (width_of m) e ≡ Some width

-- the statement stores into this name, and the rules hold of its expressions
abbrev pub StoresInto : Module → List ℕ → Stmt → Type 0
StoresInto m name (stmt.Store other e) = (other ≡ name) × IsExpr m e (width_of m name)
StoresInto m name (stmt.StoreIf condition other address e) = (other ≡ name) × IsExpr m condition 1 × ((w : ℕ) × IsExpr m address w) × IsExpr m e (width_of m name)

-- what the rules say of a statement for a name
stores_into : (m : Module) (name : List ℕ) (s : Stmt) → stored_name s ≡ name → stmt_uses (sort_of m) s ≡ true → stmt_fits (width_of m) s ≡ true → StoresInto m name s
stores_into m name (stmt.Store other e) same uses fit = (
  same,
  record {
    reads = (and_parts (is_of is_reg (sort_of m) other) (reads_declared (sort_of m) e) uses).1;
    is_wide = width_is (expr_width (width_of m) e) (width_of m name) (subst (λ (n : List ℕ). is_width (width_of m) (width_of m n) e ≡ true) same fit);
  },
)
stores_into m name (stmt.StoreIf condition other address e) same uses fit =
    let sort = sort_of m in
    let width = width_of m in
    let named = and_parts (is_of is_memory sort other) (reads_declared sort condition && (reads_declared sort address && reads_declared sort e)) uses in
    let first = and_parts (reads_declared sort condition) (reads_declared sort address && reads_declared sort e) named.1 in
    let second = and_parts (reads_declared sort address) (reads_declared sort e) first.1 in
    let one = and_parts (is_width width 1 condition) (is_some (expr_width width address) && is_width width (width other) e) fit in
    let rest = and_parts (is_some (expr_width width address)) (is_width width (width other) e) one.1 in
    let w = some_width (expr_width width address) rest.0 in (
      same,
      record { reads = first.0; is_wide = width_is (expr_width width condition) 1 one.0 },
      (w.0, record { reads = second.0; is_wide = w.1 }),
      record { reads = second.1; is_wide = width_is (expr_width width e) (width name) (subst (λ (n : List ℕ). is_width width (width n) e ≡ true) same rest.1) },
    )

-- the statement for a name stores into it, and the rules hold of its expressions
pub found_stmt : (m : Module) → first_broken m ≡ None → (name : List ℕ) (s : Stmt) → stmt_for m name ≡ Some s → StoresInto m name s
found_stmt m broken name s e =
    let of_decls = and_parts (list_all is_no_clock m.decls) _ (rules_kept m broken).used in
    let of_assigns = and_parts (list_all (assign_uses (sort_of m)) m.assigns) _ of_decls.1 in
    let all_use = (and_parts (list_all (stmt_uses (sort_of m)) (stmts_of m)) _ of_assigns.1).0 in
    let uses = find_passes (λ (s : Stmt). bytes_eq (stored_name s) name) (stmt_uses (sort_of m)) (stmts_of m) s e all_use in
    let fit = find_passes (λ (s : Stmt). bytes_eq (stored_name s) name) (stmt_fits (width_of m)) (stmts_of m) s e (parts_fit m broken).stmts in
    stores_into m name s ((bytes_eq-Decides (stored_name s) name).0 uses.0) uses.1 fit.1

-- what is stored, name by name

-- numbers that are the same name by name
registers_are : (f : List ℕ → Option Term) (g : Option Term × ℕ → ℕ) (h : List ℕ × ℕ → ℕ) → ((name : List ℕ) (old : ℕ) → g (f name, old) ≡ h (name, old))
    → (names : List (List ℕ)) (numbers : List ℕ) → map g (zip (map f names) numbers) ≡ map h (zip names numbers)
registers_are f g h same [] numbers = refl
registers_are f g h same (name ∷ names) [] = refl
registers_are f g h same (name ∷ names) (old ∷ numbers) = λ i. same name old i ∷ registers_are f g h same names numbers i

-- the words of a memory after a write, if there is one
abbrev put : Option (ℕ × ℕ) → List ℕ → List ℕ
put None words = words
put (Some (address, value)) words = slice_set words address value

-- writes into all memories but the first
put_later : (writes : List (Option (ℕ × ℕ))) (at : ℕ) (first : List ℕ) (memories : List (List ℕ)) → put_words (suc at) writes (first ∷ memories) ≡ first ∷ put_words at writes memories
put_later [] at first memories = refl
put_later (None ∷ writes) at first memories =
    let next : suc at + 1 ≡ suc (at + 1) = omega arith in
    ap (λ (n : ℕ). put_words n writes (first ∷ memories)) next ∙ put_later writes (at + 1) first memories
put_later (Some (address, value) ∷ writes) at first memories =
    let next : suc at + 1 ≡ suc (at + 1) = omega arith in
    let after = put_word memories at address value in
    ap (λ (n : ℕ). put_words n writes (first ∷ after)) next ∙ put_later writes (at + 1) first after

-- a write into the first memory
put_first : (write : Option (ℕ × ℕ)) (writes : List (Option (ℕ × ℕ))) (first : List ℕ) (memories : List (List ℕ)) → put_words 0 (write ∷ writes) (first ∷ memories) ≡ put write first ∷ put_words 0 writes memories
put_first None writes first memories = put_later writes 0 first memories
put_first (Some (address, value)) writes first memories = put_later writes 0 (slice_set first address value) memories

-- words that are the same name by name
memories_are : (f : List ℕ → Option Write) (g : Option Write → Option (ℕ × ℕ)) (h : List ℕ × List ℕ → List ℕ) → ((name : List ℕ) (words : List ℕ) → put (g (f name)) words ≡ h (name, words))
    → (names : List (List ℕ)) (memories : List (List ℕ)) → length names ≡ length memories → put_words 0 (map g (map f names)) memories ≡ map h (zip names memories)
memories_are f g h same [] [] count = refl
memories_are f g h same [] (words ∷ memories) count = absurd (omega (arith, count))
memories_are f g h same (name ∷ names) [] count = absurd (omega (arith, count))
memories_are f g h same (name ∷ names) (words ∷ memories) count =
    let rest = memories_are f g h same names memories (omega (arith, count)) in
    put_first (g (f name)) (map g (map f names)) words memories ∙ (λ i. same name words i ∷ rest i)

-- there are as many memories as names
as_many : (m : Module) (lines : List (List ℕ × ℕ)) (memories : List (List ℕ)) → AreMemories m lines memories → length (map (λ (l : List ℕ × ℕ). l.0) lines) ≡ length memories
as_many m [] [] are = refl
as_many m [] (words ∷ memories) are = absurd are
as_many m (l ∷ lines) [] are = absurd are
as_many m (l ∷ lines) (words ∷ memories) are = ap suc (as_many m lines memories are.2)

-- a write behind a test
put_choice : (none : Bool) (words : List ℕ) (address value : ℕ) → put (cond none None (Some (address, value))) words ≡ cond none words (slice_set words address value)
put_choice true words address value = refl
put_choice false words address value = refl

-- over these numbers the terms of a module's expressions have the numbers of the expressions
abbrev pub AreRight : Module → List ℕ → Kept → Valuation → List ℕ → Type 0
AreRight m order kept value numbers =
    (e : Expr) (w : ℕ) → reads_declared (sort_of m) e ≡ true → expr_width (width_of m) e ≡ Some w → term_number numbers kept.memories (term_of m order e) ≡ number_of m kept value e

module _ (m : Module) (order : List ℕ) (broken : first_broken m ≡ None) (kept : Kept) (value : Valuation) (numbers : List ℕ) (right : AreRight m order kept value numbers) where
  -- what is stored into a register
  register_is : (name : List ℕ) (old : ℕ) → next_number kept.memories numbers (next_of m order (stmt_for m name), old) ≡ number_after m kept value (name, old)
  register_is name old = step (stmt_for m name) refl
    where
      step : (o : Option Stmt) → stmt_for m name ≡ o → next_number kept.memories numbers (next_of m order o, old) ≡ number_after m kept value (name, old)
      step None e = rw e refl
      step (Some (stmt.Store other v)) e = let s = found_stmt m broken name (stmt.Store other v) e in rw e (right v (width_of m name) s.1.reads s.1.is_wide)
      step (Some (stmt.StoreIf condition other address v)) e = rw e refl

  -- what is stored into a memory
  memory_is : (name : List ℕ) (words : List ℕ) → put (written kept.memories numbers (write_of m order (stmt_for m name))) words ≡ words_after m kept value (name, words)
  memory_is name words = step (stmt_for m name) refl
    where
      step : (o : Option Stmt) → stmt_for m name ≡ o → put (written kept.memories numbers (write_of m order o)) words ≡ words_after m kept value (name, words)
      step None e = rw e refl
      step (Some (stmt.Store other v)) e = rw e refl
      step (Some (stmt.StoreIf condition other address v)) e =
          let s = found_stmt m broken name (stmt.StoreIf condition other address v) e in
          let test = right condition 1 s.1.reads s.1.is_wide in
          let at = right address s.2.0 s.2.1.reads s.2.1.is_wide in
          let word = right v (width_of m name) s.3.reads s.3.is_wide in
          rw e ((λ i. put (cond (nat_eq (test i) 0) None (Some (at i, word i))) words)
          ∙ put_choice (nat_eq (number_of m kept value condition) 0) words (number_of m kept value address) (number_of m kept value v))

-- what stays in its widths

-- numbers fit as before where each new one fits
numbers_stay : (h : List ℕ × ℕ → ℕ) (lines : List (List ℕ × ℕ)) (numbers : List ℕ) → ((l : List ℕ × ℕ) (old : ℕ) → IsLine lines l → old < 2 ^ l.1 → h (l.0, old) < 2 ^ l.1)
    → AreNumbers lines numbers → AreNumbers lines (map h (zip (map (λ (l : List ℕ × ℕ). l.0) lines) numbers))
numbers_stay h [] [] each are = tt
numbers_stay h [] (old ∷ numbers) each are = absurd are
numbers_stay h (l ∷ lines) [] each are = absurd are
numbers_stay h (l ∷ lines) (old ∷ numbers) each are = (each l old (inl refl) are.0, numbers_stay h lines numbers (λ other old here. each other old (inr here)) are.1)

-- as many words as the memory has addresses, each of which its width can hold
abbrev AreWords : Module → List ℕ × ℕ → List ℕ → Type 0
AreWords m l words = (length words ≡ last_address (sort_of m l.0) + 1) × AllBelow (2 ^ l.1) words

-- words fit as before where each memory's new ones do
memories_stay : (m : Module) (h : List ℕ × List ℕ → List ℕ) (lines : List (List ℕ × ℕ)) (memories : List (List ℕ)) → ((l : List ℕ × ℕ) (words : List ℕ) → IsLine lines l → AreWords m l words → AreWords m l (h (l.0, words)))
    → AreMemories m lines memories → AreMemories m lines (map h (zip (map (λ (l : List ℕ × ℕ). l.0) lines) memories))
memories_stay m h [] [] each are = tt
memories_stay m h [] (words ∷ memories) each are = absurd are
memories_stay m h (l ∷ lines) [] each are = absurd are
memories_stay m h (l ∷ lines) (words ∷ memories) each are =
    let new = each l words (inl refl) (are.0, are.1) in
    (new.0, new.1, memories_stay m h lines memories (λ other words here. each other words (inr here)) are.2)

-- a write of a word that fits leaves words that fit
words_stay : (m : Module) (l : List ℕ × ℕ) (none : Bool) (words : List ℕ) (address value : ℕ) → AreWords m l words → value < 2 ^ l.1 → AreWords m l (cond none words (slice_set words address value))
words_stay m l true words address value are small = are
words_stay m l false words address value are small = (length-set words address value ∙ are.0, set_below (2 ^ l.1) words address value are.1 small)

module _ (m : Module) (order : List ℕ) (broken : first_broken m ≡ None) (is : IsOrder m order) (kept : Kept) (of : IsOf m kept) (row : List ℕ) (inputs : AreNumbers (lines_of is_input m) row) where
  -- where each expression is computed right, the machine stores at an edge what the module does
  pub stored_is : (value : Valuation) (numbers : List ℕ) → AreRight m order kept value numbers → stored_by (machine_of m order) numbers kept ≡ after_edge m kept value
  stored_is value numbers right = λ i. record {
    numbers = registers i;
    memories = words i;
  }
    where
      registers : map (next_number kept.memories numbers) (zip (machine_of m order).registers kept.numbers) ≡ map (number_after m kept value) (zip (names_of is_reg m) kept.numbers)
      registers =
          registers_are (λ (name : List ℕ). next_of m order (stmt_for m name)) (next_number kept.memories numbers) (number_after m kept value)
          (register_is m order broken kept value numbers right) (names_of is_reg m) kept.numbers

      words : put_words 0 (map (written kept.memories numbers) (machine_of m order).memories) kept.memories ≡ map (words_after m kept value) (zip (names_of is_memory m) kept.memories)
      words =
          memories_are (λ (name : List ℕ). write_of m order (stmt_for m name)) (written kept.memories numbers) (words_after m kept value)
          (memory_is m order broken kept value numbers right) (names_of is_memory m) kept.memories (as_many m (lines_of is_memory m) kept.memories of.memories)

  -- in a solution the number of each expression fits its width
  number_small : (value : Valuation) → IsTheSolution m kept row value → (e : Expr) (w : ℕ) → IsExpr m e w → number_of m kept value e < 2 ^ w
  number_small value solution e w expr =
      (fits m kept value e w (narrow_widths m (rules_kept m broken).narrow) (words_within m order broken is kept of) expr.is_wide
      (λ name here. within_at m order broken is value solution.solves.within name (reads_readable (sort_of m) e expr.reads name here))).within

  -- what an edge leaves in a register fits
  register_stays : (value : Valuation) → IsTheSolution m kept row value → (l : List ℕ × ℕ) (old : ℕ) → IsLine (lines_of is_reg m) l → old < 2 ^ l.1 → number_after m kept value (l.0, old) < 2 ^ l.1
  register_stays value solution l old here below = step (stmt_for m l.0) refl
    where
      step : (o : Option Stmt) → stmt_for m l.0 ≡ o → number_after m kept value (l.0, old) < 2 ^ l.1
      step None e = rw e below
      step (Some (stmt.Store other v)) e =
          let s = found_stmt m broken l.0 (stmt.Store other v) e in
          rw e (subst (λ (w : ℕ). number_of m kept value v < 2 ^ w) (line_width m order broken is is_reg l here) (number_small value solution v (width_of m l.0) s.1))
      step (Some (stmt.StoreIf condition other address v)) e = rw e below

  -- what an edge leaves in a memory fits
  memory_stays : (value : Valuation) → IsTheSolution m kept row value → (l : List ℕ × ℕ) (words : List ℕ) → IsLine (lines_of is_memory m) l → AreWords m l words → AreWords m l (words_after m kept value (l.0, words))
  memory_stays value solution l words here are = step (stmt_for m l.0) refl
    where
      step : (o : Option Stmt) → stmt_for m l.0 ≡ o → AreWords m l (words_after m kept value (l.0, words))
      step None e = rw e are
      step (Some (stmt.Store other v)) e = rw e are
      step (Some (stmt.StoreIf condition other address v)) e =
          let s = found_stmt m broken l.0 (stmt.StoreIf condition other address v) e in
          let word = subst (λ (w : ℕ). number_of m kept value v < 2 ^ w) (line_width m order broken is is_memory l here) (number_small value solution v (width_of m l.0) s.3) in
          rw e (words_stay m l (nat_eq (number_of m kept value condition) 0) words (number_of m kept value address) (number_of m kept value v) are word)

  -- registers and memories of a module are its own after an edge too
  pub after_is_of : (value : Valuation) → IsTheSolution m kept row value → IsOf m (after_edge m kept value)
  after_is_of value solution = record {
    numbers = numbers_stay (number_after m kept value) (lines_of is_reg m) kept.numbers (register_stays value solution) of.numbers;
    memories = memories_stay m (words_after m kept value) (lines_of is_memory m) kept.memories (memory_stays value solution) of.memories;
  }
