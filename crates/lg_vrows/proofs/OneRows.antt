-- Rows of a valid module have one list of outputs at most.
use Rattle.std.proofs.Common.{◌≡◌, ℕ, Bool, true, false, cond, List, [], ◌∷◌, map, Option, Some, None, refl, sym, ap, subst, ◌∙◌, inl, inr}
use Rattle.std.specs.Prelude.{option_map, unwrap_or, filter, zip}
use Rattle.std.specs.List.{AllByRecursion}
use Rattle.std.proofs.lemmas.Bool.{false≢true}
use Rattle.lg_vtree.specs.declared.expr.Expr.{Expr}
use Rattle.lg_vtree.specs.declared.module.Stmt.{Stmt}
use Rattle.lg_vtree.specs.declared.module.Stmt.TheVariants as stmt
use Rattle.lg_vtree.specs.declared.module.Module.{Module}
use Rattle.lg_vrules.specs.declared.names.Sort.{Sort}
use Rattle.lg_vrules.specs.declared.names.Sort.TheVariants as sort
use Rattle.lg_vrules.specs.declared.names.Thing.{Thing}
use Rattle.lg_vrules.specs.Things.{range_width, things, sort_of, names_of, lines_of, is_output, is_reg, is_memory, is_readable}
use Rattle.lg_vrules.specs.Rules.{is_of, reads_declared, first_broken}
use Rattle.lg_vmachine.specs.Kept.{Kept}
use Rattle.lg_vresolve.specs.Meaning.{Valuation, number_of}
use Rattle.lg_vresolve.proofs.TermLemmas.{reads_only}
use Rattle.lg_vresolve.proofs.ReadLemmas.{reads_readable}
use Rattle.lg_vmeaning.specs.InOrder.{IsIn}
use Rattle.lg_vmeaning.specs.Rows.{stmt_for, number_after, words_after, after_edge, AreRows}
use Rattle.lg_vmeaning.specs.Solution.{AgreeOn}
use Rattle.lg_vmeaning.specs.Valid.{IsValid}
use Rattle.lg_vmeaning.proofs.NameLemmas.{Named, found, names_in, found_in}
use Rattle.lg_vmeaning.proofs.InOrderLemmas.{map_agree}
use Rattle.lg_vmeaning.proofs.EdgeLemmas.{found_stmt}

-- valuations that agree on all lines agree on the name of one
agree_in : (v w : Valuation) (lines : List (List ℕ × ℕ)) (name : List ℕ) → AllByRecursion (λ (l : List ℕ × ℕ). v l.0 ≡ w l.0) lines → IsIn (map (λ (l : List ℕ × ℕ). l.0) lines) name → v name ≡ w name
agree_in v w [] name all here = absurd here
agree_in v w (l ∷ lines) name all (inl e) = ap v e ∙ (all.0 ∙ ap w (sym e))
agree_in v w (l ∷ lines) name all (inr here) = agree_in v w lines name all.1 here

readable_output : (s : Sort) → is_output s ≡ true → is_readable s ≡ true
readable_output sort.Output e = refl
readable_output sort.Input e = absurd (cc e)
readable_output sort.Clock e = absurd (cc e)
readable_output sort.Wire e = absurd (cc e)
readable_output sort.Reg e = absurd (cc e)
readable_output (sort.Memory last) e = absurd (cc e)

-- an output is among what an expression may read
output_among : (all : List Named) (name : List ℕ) → IsIn (names_in is_output all) name → IsIn (names_in is_readable all) name
output_among [] name here = absurd here
output_among (t ∷ all) name here = step (is_output t.1.sort) (is_readable t.1.sort) (readable_output t.1.sort) here (output_among all name)
  where
    step : (o r : Bool) → (o ≡ true → r ≡ true)
        → IsIn (map (λ (l : List ℕ × ℕ). l.0) (map (λ (t : Named). (t.0, range_width t.1.high)) (cond o (t ∷ filter (λ (t : Named). is_output t.1.sort) all) (filter (λ (t : Named). is_output t.1.sort) all)))) name
        → (IsIn (names_in is_output all) name → IsIn (names_in is_readable all) name)
        → IsIn (map (λ (l : List ℕ × ℕ). l.0) (map (λ (t : Named). (t.0, range_width t.1.high)) (cond r (t ∷ filter (λ (t : Named). is_readable t.1.sort) all) (filter (λ (t : Named). is_readable t.1.sort) all)))) name
    step true true may (inl e) rest = inl e
    step true true may (inr there) rest = inr (rest there)
    step true false may there rest = absurd (false≢true (may refl))
    step false true may there rest = inr (rest there)
    step false false may there rest = rest there

module _ (m : Module) (v w : Valuation) (agree : AgreeOn m v w) where
  -- so their outputs are the same
  outputs_same : map v (names_of is_output m) ≡ map w (names_of is_output m)
  outputs_same = map_agree (names_of is_output m) v w (λ name here. agree_in v w (lines_of is_readable m) name agree (output_among (things m) name here))

  -- and each name that an expression may read has one number
  readable_same : (name : List ℕ) → is_of is_readable (sort_of m) name ≡ true → v name ≡ w name
  readable_same name e = step (found (things m) name) refl
    where
      test : Option Thing → Bool
      test o = unwrap_or (option_map is_readable (option_map (λ (t : Thing). t.sort) o)) false

      step : (o : Option Thing) → found (things m) name ≡ o → v name ≡ w name
      step (Some t) f = agree_in v w (lines_of is_readable m) name agree (found_in is_readable (things m) name t f (sym (ap test f) ∙ e))
      step None f = absurd (false≢true (sym (ap test f) ∙ e))

  module _ (broken : first_broken m ≡ None) (kept : Kept) where
    -- so an expression that the rules allow has one number
    number_same : (e : Expr) → reads_declared (sort_of m) e ≡ true → number_of m kept v e ≡ number_of m kept w e
    number_same e reads = reads_only m kept v w e (λ name here. readable_same name (reads_readable (sort_of m) e reads name here))

    -- what an edge leaves in a register
    register_same : (name : List ℕ) (old : ℕ) → number_after m kept v (name, old) ≡ number_after m kept w (name, old)
    register_same name old = step (stmt_for m name) refl
      where
        step : (o : Option Stmt) → stmt_for m name ≡ o → number_after m kept v (name, old) ≡ number_after m kept w (name, old)
        step None e = rw e refl
        step (Some (stmt.Store other a)) e = let s = found_stmt m broken name (stmt.Store other a) e in rw e (number_same a s.1.reads)
        step (Some (stmt.StoreIf condition other address a)) e = rw e refl

    -- and in a memory
    memory_same : (name : List ℕ) (words : List ℕ) → words_after m kept v (name, words) ≡ words_after m kept w (name, words)
    memory_same name words = step (stmt_for m name) refl
      where
        step : (o : Option Stmt) → stmt_for m name ≡ o → words_after m kept v (name, words) ≡ words_after m kept w (name, words)
        step None e = rw e refl
        step (Some (stmt.Store other a)) e = rw e refl
        step (Some (stmt.StoreIf condition other address a)) e =
            let s = found_stmt m broken name (stmt.StoreIf condition other address a) e in
            let test = number_same condition s.1.reads in
            let at = number_same address s.2.1.reads in
            let word = number_same a s.3.reads in
            rw (e, test, at, word) refl

    -- an edge leaves the same
    after_same : after_edge m kept v ≡ after_edge m kept w
    after_same = λ i. record {
      numbers = map (λ (r : List ℕ × ℕ). register_same r.0 r.1 i) (zip (names_of is_reg m) kept.numbers);
      memories = map (λ (r : List ℕ × List ℕ). memory_same r.0 r.1 i) (zip (names_of is_memory m) kept.memories);
    }

-- rows have one list of outputs
pub one_rows : (m : Module) → IsValid m → (kept : Kept) (rows a b : List (List ℕ)) → AreRows m kept rows a → AreRows m kept rows b → a ≡ b
one_rows m valid kept [] [] [] h k = refl
one_rows m valid kept [] [] (y ∷ b) h k = absurd k
one_rows m valid kept [] (x ∷ a) b h k = absurd h
one_rows m valid kept (row ∷ rows) [] b h k = absurd h
one_rows m valid kept (row ∷ rows) (x ∷ a) [] h k = absurd k
one_rows m valid kept (row ∷ rows) (x ∷ a) (y ∷ b) h k =
    let agree : AgreeOn m h.0 k.0 = h.1.only k.0 k.1.solves in
    let first : x ≡ y = sym h.2 ∙ (outputs_same m h.0 k.0 agree ∙ k.2) in
    let after : after_edge m kept h.0 ≡ after_edge m kept k.0 = after_same m h.0 k.0 agree valid.rules kept in
    let rest : a ≡ b = one_rows m valid (after_edge m kept h.0) rows a b h.3 (subst (λ (s : Kept). AreRows m s rows b) (sym after) k.3) in
    λ i. first i ∷ rest i
