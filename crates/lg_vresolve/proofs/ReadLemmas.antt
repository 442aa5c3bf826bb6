-- An expression that the rules allow reads only names that have numbers.
use Rattle.std.proofs.Common.{◌≡◌, ℕ, zero, suc, Bool, true, ◌&&◌, List, [], ◌∷◌, ◌++◌, map, Option, inl, inr, ◌⊎◌, sym, subst, ◌∙◌, arith}
use Rattle.std.specs.Prelude.{Contains}
use Rattle.std.specs.List.{AllByRecursion, flat_map, list_all}
use Rattle.std.proofs.lemmas.List.Elements.{Contains-append_cases}
use Rattle.lg_vtree.specs.declared.expr.Expr.{Expr}
use Rattle.lg_vtree.specs.declared.expr.Expr.TheFolds.{map-Expr, fold-roll-Expr}
use Rattle.lg_vtree.specs.declared.expr.Expr.TheOpen.{Expr-F}
use Rattle.lg_vrules.specs.declared.names.Sort.{Sort}
use Rattle.lg_vrules.specs.Things.{is_memory, is_readable}
use Rattle.lg_vrules.specs.Rules.{is_of, form_reads, reads_declared}
use Rattle.lg_vrules.specs.Depends.{form_names, names_read}
use Rattle.lg_vresolve.proofs.ExprInduction.{parts, by_forms}
use Rattle.lg_vresolve.proofs.TermLemmas.{AtEach, names-roll}
use Rattle.lg_vresolve.proofs.FitLemmas.{both}

at_itself : (P : List ℕ → Type 0) (name : List ℕ) → P name → AtEach P (name ∷ [])
at_itself P name holds other (zero, here, same) = subst P same holds
at_itself P name holds other (suc k, here, same) = absurd (omega (arith, here))

at_none : (P : List ℕ → Type 0) → AtEach P []
at_none P other (k, here, same) = absurd (omega (arith, here))

at_both : (P : List ℕ → Type 0) (some others : List (List ℕ)) → AtEach P some → AtEach P others → AtEach P (some ++ others)
at_both P some others first second name here = by_side (Contains-append_cases some others name here)
  where
    by_side : Contains some name ⊎ Contains others name → P name
    by_side (inl h) = first name h
    by_side (inr h) = second name h

module _ (sort : List ℕ → Option Sort) where
  abbrev Readable : List ℕ → Type 0
  Readable name = is_of is_readable sort name ≡ true

  abbrev ReadsReadable : Expr → Type 0
  ReadsReadable e = reads_declared sort e ≡ true → AtEach Readable (names_read e)

  all_readable : (es : List Expr) → AllByRecursion ReadsReadable es → list_all (λ e. e) (map (reads_declared sort) es) ≡ true → AtEach Readable (flat_map (λ names. names) (map names_read es))
  all_readable [] inner reads = at_none Readable
  all_readable (e ∷ es) inner reads =
      let declared = both (reads_declared sort e) (list_all (λ e. e) (map (reads_declared sort) es)) reads in
      at_both Readable (names_read e) (flat_map (λ names. names) (map names_read es)) (inner.0 declared.0) (all_readable es inner.1 declared.1)

  readable_form : (f : Expr-F Expr) → AllByRecursion ReadsReadable (parts f) → form_reads sort (map-Expr Expr Bool (reads_declared sort) f) ≡ true
      → AtEach Readable (form_names (map-Expr Expr (List (List ℕ)) names_read f))
  readable_form (Expr-F.Const c) inner reads = at_none Readable
  readable_form (Expr-F.Whole name) inner reads = at_itself Readable name reads
  readable_form (Expr-F.Bit name index) inner reads = at_itself Readable name reads
  readable_form (Expr-F.Part name high low) inner reads = at_itself Readable name reads
  readable_form (Expr-F.Item name e) inner reads = inner.0 (both (is_of is_memory sort name) (reads_declared sort e) reads).1
  readable_form (Expr-F.Join a b more) inner reads =
      let outer = both (reads_declared sort a) (list_all (λ e. e) (map (reads_declared sort) (b ∷ more))) reads in
      let rest = both (reads_declared sort b) (list_all (λ e. e) (map (reads_declared sort) more)) outer.1 in
      at_both Readable (names_read a ++ names_read b) (flat_map (λ names. names) (map names_read more))
      (at_both Readable (names_read a) (names_read b) (inner.0 outer.0) (inner.1.0 rest.0)) (all_readable more inner.1.1 rest.1)
  readable_form (Expr-F.Not e) inner reads = inner.0 reads
  readable_form (Expr-F.Binary a op b) inner reads =
      let declared = both (reads_declared sort a) (reads_declared sort b) reads in
      at_both Readable (names_read a) (names_read b) (inner.0 declared.0) (inner.1.0 declared.1)
  readable_form (Expr-F.Choice c a b) inner reads =
      let outer = both (reads_declared sort c) (reads_declared sort a && reads_declared sort b) reads in
      let rest = both (reads_declared sort a) (reads_declared sort b) outer.1 in
      at_both Readable (names_read c ++ names_read a) (names_read b)
      (at_both Readable (names_read c) (names_read a) (inner.0 outer.0) (inner.1.0 rest.0)) (inner.1.1.0 rest.1)

  -- each name that it reads has a number that an expression may read
  pub reads_readable : (e : Expr) → reads_declared sort e ≡ true → (name : List ℕ) → Contains (names_read e) name → is_of is_readable sort name ≡ true
  reads_readable = by_forms ReadsReadable (λ f inner reads. subst (AtEach Readable) (sym (names-roll f)) (readable_form f inner (sym (fold-roll-Expr Bool (form_reads sort) f) ∙ reads)))
