-- What net bits say: the names that they read, how wide they are, and their number.
use Rattle.std.proofs.Common.{◌≡◌, ℕ, zero, suc, ◌+◌, ◌-◌, ◌*◌, ◌/◌, ◌%◌, ◌^◌, ◌<◌, ◌≤◌, Bool, true, false, ◌&&◌, List, [], ◌∷◌, ◌++◌, length, map, fold, Option, Some, option_map, refl, sym, ap, subst, ◌∙◌, arith}
use Rattle.std.specs.Prelude.{◌==◌, nat_le, nat_lt, Contains, option_and_then, if◌then◌else◌}
use Rattle.std.specs.Int.{bit_at}
use Rattle.std.specs.List.{AllByRecursion, flat_map, list_all}
use Rattle.std.specs.Str.{bytes_eq}
use Rattle.std.proofs.Math.Nat.{div-one, mod-eq_of_lt}
use Rattle.std.proofs.lemmas.Bool.{and_from, and_parts, cond-true, cond-false, eqb-true, eqb-false, le-leb, lt-ltb}
use Rattle.std.proofs.lemmas.Nat.{mod-pow-add, pow-add, shr-shr}
use Rattle.std.proofs.lemmas.Slice.Eq.{bytes_eq-Decides}
use Rattle.lg_value.specs.declared.bit.Bit.{Bit}
use Rattle.lg_value.specs.Bit.{digit_of}
use Rattle.lg_value.specs.Word.{number_of as word_number}
use Rattle.lg_value.proofs.WordLemmas.{number_of_nil, number_of-cons}
use Rattle.lg_netlist.specs.declared.netlist.Netlist.{Netlist}
use Rattle.lg_vtree.specs.Depth.{greatest, form_depth, depth}
use Rattle.lg_vtree.specs.declared.expr.Expr.{Expr, fold-Expr}
use Rattle.lg_vtree.specs.declared.expr.Expr.TheFolds.{fold-roll-Expr}
use Rattle.lg_vtree.specs.declared.expr.Expr.TheOpen.{Expr-F}
use Rattle.lg_vtree.specs.declared.expr.Expr.TheVariants.{rolls-Whole, rolls-Bit, rolls-Part, rolls-Join}
use Rattle.lg_vtree.specs.declared.expr.Expr.TheVariants as expr
use Rattle.lg_vtree.specs.declared.module.Module.{Module}
use Rattle.lg_vrules.specs.declared.names.Sort.{Sort}
use Rattle.lg_vrules.specs.Depends.{form_names, names_read}
use Rattle.lg_vrules.specs.Inside.{form_inside, folded, holds_inside}
use Rattle.lg_vrules.specs.Rules.{is_of, form_reads, reads_declared, at_most_128, bit_width, part_width, sum_of, form_width, expr_width, divides_safely, address_fits, all_address}
use Rattle.lg_vrules.specs.Things.{width_of, is_readable}
use Rattle.lg_vmachine.specs.Kept.{Kept}
use Rattle.lg_vresolve.specs.Meaning.{Valuation, joined, memory_words, form_number, number_of}
use Rattle.lg_export.specs.Layout.{NamedBit, bit_on, Run, run_of, goes_on, on_top, runs, run_expr, in_braces, bits_value}

-- each of some net bits is a bit of a name of this width
abbrev pub FitWidths : (List ℕ → ℕ) → Netlist → List ℕ → Type 0
FitWidths width n bits = (net : ℕ) → Contains bits net → (width (bit_on n net).name ≡ (bit_on n net).width) × ((bit_on n net).index < (bit_on n net).width)

-- ---- runs, bit by bit

-- a run that goes on with a bit
abbrev grown : Run → NamedBit → Run
grown r b = record { name = r.name; width = r.width; high = b.index; low = r.low }

-- such a bit has the run's name, and is the next one
going_on : (r : Run) (b : NamedBit) → goes_on r b ≡ true → (r.name ≡ b.name) × (r.high + 1 ≡ b.index)
going_on r b e =
    let parts = and_parts (bytes_eq r.name b.name) (r.high + 1 == b.index) e in
    ((bytes_eq-Decides r.name b.name).0 parts.0, eqb-true (r.high + 1) b.index parts.1)

on_top-cases : (P : List Run → Type 0) (r : Run) (lower : List Run) (b : NamedBit) → (goes_on r b ≡ true → P (grown r b ∷ lower)) → P (run_of b ∷ r ∷ lower) → P (on_top (r ∷ lower) b)
on_top-cases P r lower b more apart = by (goes_on r b) refl
  where
    by : (t : Bool) → goes_on r b ≡ t → P (on_top (r ∷ lower) b)
    by true e = subst P (sym (cond-true (goes_on r b) (grown r b ∷ lower) (run_of b ∷ r ∷ lower) e)) (more e)
    by false e = subst P (sym (cond-false (goes_on r b) (grown r b ∷ lower) (run_of b ∷ r ∷ lower) e)) apart

-- what holds of each bit, and so of a run of one and of a run that goes on, holds of each run
module _ (B : NamedBit → Type 0) (Q : Run → Type 0) (starts : (b : NamedBit) → B b → Q (run_of b)) (grows : (r : Run) (b : NamedBit) → Q r → B b → goes_on r b ≡ true → Q (grown r b)) where
  on_top-keeps : (rs : List Run) (b : NamedBit) → AllByRecursion Q rs → B b → AllByRecursion Q (on_top rs b)
  on_top-keeps [] b all here = (starts b here, tt)
  on_top-keeps (r ∷ lower) b all here = on_top-cases (AllByRecursion Q) r lower b (λ e. (grows r b all.0 here e, all.1)) (starts b here, all)

  runs-keep : (rs : List Run) (bits : List NamedBit) → AllByRecursion Q rs → AllByRecursion B bits → AllByRecursion Q (fold on_top rs bits)
  runs-keep rs [] all here = all
  runs-keep rs (b ∷ bits) all here = runs-keep (on_top rs b) bits (on_top-keeps rs b all here.0) here.1

in_tail : (net other : ℕ) (bits : List ℕ) → Contains bits other → Contains (net ∷ bits) other
in_tail net other bits here = (suc here.0, omega (arith, here.1), here.2)

-- what holds of the bit on each net
each_bit : (B : NamedBit → Type 0) (n : Netlist) (bits : List ℕ) → ((net : ℕ) → Contains bits net → B (bit_on n net)) → AllByRecursion B (map (bit_on n) bits)
each_bit B n [] here = tt
each_bit B n (net ∷ bits) here = (here net (0, omega arith, refl), each_bit B n bits (λ other h. here other (in_tail net other bits h)))

-- some bits make some runs
some_run : (rs : List Run) (b : NamedBit) → 0 < length (on_top rs b)
some_run [] b = omega arith
some_run (r ∷ lower) b = on_top-cases (λ rs. 0 < length rs) r lower b (λ e. omega arith) (omega arith)

fold-some : (rs : List Run) (bits : List NamedBit) → 0 < length rs → 0 < length (fold on_top rs bits)
fold-some rs [] some = some
fold-some rs (b ∷ bits) some = fold-some (on_top rs b) bits (some_run rs b)

runs-some : (n : Netlist) (bits : List ℕ) → 0 < length bits → 0 < length (runs (map (bit_on n) bits))
runs-some n [] some = absurd (omega arith)
runs-some n (net ∷ bits) some = fold-some (run_of (bit_on n net) ∷ []) (map (bit_on n) bits) (omega arith)

-- ---- expressions of runs, form by form

module _ (A : Type 0) (step : Expr-F A → A) where
  fold-Whole : (name : List ℕ) → fold-Expr A step (expr.Whole name) ≡ step (Expr-F.Whole name)
  fold-Whole name = ap (λ (e : Expr). fold-Expr A step e) (sym (rolls-Whole name)) ∙ fold-roll-Expr A step (Expr-F.Whole name)

  fold-Bit : (name : List ℕ) (index : ℕ) → fold-Expr A step (expr.Bit name index) ≡ step (Expr-F.Bit name index)
  fold-Bit name index = ap (λ (e : Expr). fold-Expr A step e) (sym (rolls-Bit name index)) ∙ fold-roll-Expr A step (Expr-F.Bit name index)

  fold-Part : (name : List ℕ) (high low : ℕ) → fold-Expr A step (expr.Part name high low) ≡ step (Expr-F.Part name high low)
  fold-Part name high low = ap (λ (e : Expr). fold-Expr A step e) (sym (rolls-Part name high low)) ∙ fold-roll-Expr A step (Expr-F.Part name high low)

  fold-Join : (a b : Expr) (more : List Expr) → fold-Expr A step (expr.Join a b more) ≡ step (Expr-F.Join (fold-Expr A step a) (fold-Expr A step b) (map (fold-Expr A step) more))
  fold-Join a b more = ap (λ (e : Expr). fold-Expr A step e) (sym (rolls-Join a b more)) ∙ fold-roll-Expr A step (Expr-F.Join a b more)

-- what a run is written as where it is no whole name
abbrev some_bits : Run → Expr
some_bits r = if r.high == r.low then expr.Bit r.name r.low else expr.Part r.name r.high r.low

-- a run is written as a whole name, as one bit or as some
run_expr-cases : (P : Expr → Type 0) (r : Run)
    → (r.high + 1 ≡ r.low + r.width → P (expr.Whole r.name))
    → ((r.high + 1 ≡ r.low + r.width → ⊥) → r.high ≡ r.low → P (expr.Bit r.name r.low))
    → ((r.high + 1 ≡ r.low + r.width → ⊥) → (r.high ≡ r.low → ⊥) → P (expr.Part r.name r.high r.low))
    → P (run_expr r)
run_expr-cases P r whole bit part = by (r.high + 1 == r.low + r.width) refl (r.high == r.low) refl
  where
    by : (s : Bool) → (r.high + 1 == r.low + r.width) ≡ s → (t : Bool) → (r.high == r.low) ≡ t → P (run_expr r)
    by true e t f = subst P (sym (cond-true (r.high + 1 == r.low + r.width) (expr.Whole r.name) (some_bits r) e)) (whole (eqb-true (r.high + 1) (r.low + r.width) e))
    by false e true f =
        subst P (sym (cond-false (r.high + 1 == r.low + r.width) (expr.Whole r.name) (some_bits r) e ∙ cond-true (r.high == r.low) (expr.Bit r.name r.low) (expr.Part r.name r.high r.low) f))
        (bit (eqb-false (r.high + 1) (r.low + r.width) e) (eqb-true r.high r.low f))
    by false e false f =
        subst P (sym (cond-false (r.high + 1 == r.low + r.width) (expr.Whole r.name) (some_bits r) e ∙ cond-false (r.high == r.low) (expr.Bit r.name r.low) (expr.Part r.name r.high r.low) f))
        (part (eqb-false (r.high + 1) (r.low + r.width) e) (eqb-false r.high r.low f))

-- ---- the names that are read

run_names : (r : Run) → names_read (run_expr r) ≡ r.name ∷ []
run_names r =
    run_expr-cases (λ e. names_read e ≡ r.name ∷ []) r
    (λ e. fold-Whole (List (List ℕ)) form_names r.name)
    (λ e f. fold-Bit (List (List ℕ)) form_names r.name r.low)
    (λ e f. fold-Part (List (List ℕ)) form_names r.name r.high r.low)

-- a name for each run
all_names : (rs : List Run) → flat_map (λ names. names) (map names_read (map run_expr rs)) ≡ map (λ (r : Run). r.name) rs
all_names [] = refl
all_names (r ∷ rs) = λ i. run_names r i ++ all_names rs i

braces_names : (rs : List Run) → 0 < length rs → names_read (in_braces (map run_expr rs)) ≡ map (λ (r : Run). r.name) rs
braces_names [] some = absurd (omega arith)
braces_names (r ∷ []) some = run_names r
braces_names (r ∷ s ∷ rs) some =
    fold-Join (List (List ℕ)) form_names (run_expr r) (run_expr s) (map run_expr rs)
    ∙ (λ i. run_names r i ++ run_names s i ++ all_names rs i)

-- a name among those of runs has what each of them has
of_names : (P : List ℕ → Type 0) (rs : List Run) (name : List ℕ) → AllByRecursion (λ (r : Run). P r.name) rs → Contains (map (λ (r : Run). r.name) rs) name → P name
of_names P [] name all (k, here, same) = absurd (omega (arith, here))
of_names P (r ∷ rs) name all (zero, here, same) = subst P same all.0
of_names P (r ∷ rs) name all (suc k, here, same) = of_names P rs name all.1 (k, omega (arith, here), same)

-- the names of runs are those of bits
named_runs : (P : List ℕ → Type 0) (n : Netlist) (bits : List ℕ) → ((net : ℕ) → Contains bits net → P (bit_on n net).name) → AllByRecursion (λ (r : Run). P r.name) (runs (map (bit_on n) bits))
named_runs P n bits here =
    runs-keep (λ (b : NamedBit). P b.name) (λ (r : Run). P r.name) (λ b h. h) (λ r b h k e. h) [] (map (bit_on n) bits) tt
    (each_bit (λ (b : NamedBit). P b.name) n bits here)

pub bits_read : (n : Netlist) (bits : List ℕ) → 0 < length bits → (name : List ℕ) → Contains (names_read (bits_value n bits)) name → (net : ℕ) × Contains bits net × (name ≡ (bit_on n net).name)
bits_read n bits some name here =
    of_names (λ (other : List ℕ). (net : ℕ) × Contains bits net × (other ≡ (bit_on n net).name)) (runs (map (bit_on n) bits)) name
    (named_runs (λ (other : List ℕ). (net : ℕ) × Contains bits net × (other ≡ (bit_on n net).name)) n bits (λ net h. (net, h, refl)))
    (subst (λ (names : List (List ℕ)). Contains names name) (braces_names (runs (map (bit_on n) bits)) (runs-some n bits some)) here)

-- ---- what is declared

module _ (sort : List ℕ → Option Sort) where
  abbrev IsDeclared : Run → Type 0
  IsDeclared r = is_of is_readable sort r.name ≡ true

  run_declared : (r : Run) → IsDeclared r → reads_declared sort (run_expr r) ≡ true
  run_declared r here =
      run_expr-cases (λ e. reads_declared sort e ≡ true) r
      (λ e. fold-Whole Bool (form_reads sort) r.name ∙ here)
      (λ e f. fold-Bit Bool (form_reads sort) r.name r.low ∙ here)
      (λ e f. fold-Part Bool (form_reads sort) r.name r.high r.low ∙ here)

  all_declared : (rs : List Run) → AllByRecursion IsDeclared rs → list_all (λ e. e) (map (reads_declared sort) (map run_expr rs)) ≡ true
  all_declared [] all = refl
  all_declared (r ∷ rs) all =
      and_from (reads_declared sort (run_expr r)) (list_all (λ e. e) (map (reads_declared sort) (map run_expr rs))) (run_declared r all.0) (all_declared rs all.1)

  braces_declared : (rs : List Run) → 0 < length rs → AllByRecursion IsDeclared rs → reads_declared sort (in_braces (map run_expr rs)) ≡ true
  braces_declared [] some all = absurd (omega arith)
  braces_declared (r ∷ []) some all = run_declared r all.0
  braces_declared (r ∷ s ∷ rs) some all = fold-Join Bool (form_reads sort) (run_expr r) (run_expr s) (map run_expr rs) ∙ all_declared (r ∷ s ∷ rs) all

pub bits_declared : (sort : List ℕ → Option Sort) (n : Netlist) (bits : List ℕ) → 0 < length bits → ((net : ℕ) → Contains bits net → is_of is_readable sort (bit_on n net).name ≡ true) → reads_declared sort (bits_value n bits) ≡ true
bits_declared sort n bits some here =
    braces_declared sort (runs (map (bit_on n) bits)) (runs-some n bits some) (named_runs (λ (name : List ℕ). is_of is_readable sort name ≡ true) n bits here)

-- ---- widths

-- a bit of a name of this width
abbrev FitsBit : (List ℕ → ℕ) → NamedBit → Type 0
FitsBit width b = (width b.name ≡ b.width) × (b.index < b.width)

-- some bits of a name of this width
abbrev FitsRun : (List ℕ → ℕ) → Run → Type 0
FitsRun width r = (width r.name ≡ r.width) × (r.low ≤ r.high) × (r.high < r.width)

run_fits : (width : List ℕ → ℕ) (b : NamedBit) → FitsBit width b → FitsRun width (run_of b)
run_fits width b here = (here.0, omega arith, here.1)

grown_fits : (width : List ℕ → ℕ) (r : Run) (b : NamedBit) → FitsRun width r → FitsBit width b → goes_on r b ≡ true → FitsRun width (grown r b)
grown_fits width r b all here e =
    let next = going_on r b e in
    let same : b.width ≡ r.width = sym here.0 ∙ (ap width (sym next.0) ∙ all.0) in
    (all.0, omega (arith, all.1, next.1), subst (λ (w : ℕ). b.index < w) same here.1)

fitting_runs : (width : List ℕ → ℕ) (n : Netlist) (bits : List ℕ) → FitWidths width n bits → AllByRecursion (FitsRun width) (runs (map (bit_on n) bits))
fitting_runs width n bits fit = runs-keep (FitsBit width) (FitsRun width) (run_fits width) (grown_fits width) [] (map (bit_on n) bits) tt (each_bit (FitsBit width) n bits fit)

-- how many bits there are in a run, and in some
abbrev size : Run → ℕ
size r = r.high + 1 - r.low

abbrev total : List Run → ℕ
total [] = 0
total (r ∷ rs) = size r + total rs

module _ (width : List ℕ → ℕ) where
  size_grown : (r : Run) (b : NamedBit) → FitsRun width r → goes_on r b ≡ true → size (grown r b) ≡ size r + 1
  size_grown r b fits e = let next : r.high + 1 ≡ b.index = (going_on r b e).1 in let ordered : r.low ≤ r.high = fits.1 in omega arith

  total_on_top : (rs : List Run) (b : NamedBit) → AllByRecursion (FitsRun width) rs → total (on_top rs b) ≡ total rs + 1
  total_on_top [] b fits = omega arith
  total_on_top (r ∷ lower) b fits =
      on_top-cases (λ rs. total rs ≡ total (r ∷ lower) + 1) r lower b
      (λ e. let more : size (grown r b) ≡ size r + 1 = size_grown r b fits.0 e in omega arith)
      (omega arith)

  total_fold : (rs : List Run) (bits : List NamedBit) → AllByRecursion (FitsRun width) rs → AllByRecursion (FitsBit width) bits → total (fold on_top rs bits) ≡ total rs + length bits
  total_fold rs [] fits here = omega arith
  total_fold rs (b ∷ bits) fits here =
      let rest = total_fold (on_top rs b) bits (on_top-keeps (FitsBit width) (FitsRun width) (run_fits width) (grown_fits width) rs b fits here.0) here.1 in
      let one = total_on_top rs b fits in
      omega (arith, rest, one)

  run_width : (r : Run) → FitsRun width r → expr_width width (run_expr r) ≡ Some (size r)
  run_width r fits =
      run_expr-cases (λ e. expr_width width e ≡ Some (size r)) r
      (λ e. fold-Whole (Option ℕ) (form_width width) r.name ∙ ap Some (fits.0 ∙ whole e))
      (λ e f. fold-Bit (Option ℕ) (form_width width) r.name r.low ∙ bit e f)
      (λ e f. fold-Part (Option ℕ) (form_width width) r.name r.high r.low ∙ part f)
    where
      whole : r.high + 1 ≡ r.low + r.width → r.width ≡ size r
      whole e = omega (arith, fits.1, fits.2)

      bit : (r.high + 1 ≡ r.low + r.width → ⊥) → r.high ≡ r.low → bit_width (width r.name) r.low ≡ Some (size r)
      bit e f =
          let wide : 1 < width r.name = omega (arith, fits.0, fits.1, fits.2, e, f) in
          let within : r.low < width r.name = omega (arith, fits.0, fits.2, f) in
          let one : 1 ≡ size r = omega (arith, f) in
          cond-true (nat_lt 1 (width r.name) && nat_lt r.low (width r.name)) (Some 1) _ (and_from (nat_lt 1 (width r.name)) (nat_lt r.low (width r.name)) (lt-ltb 1 (width r.name) wide) (lt-ltb r.low (width r.name) within))
          ∙ ap Some one

      part : (r.high ≡ r.low → ⊥) → part_width (width r.name) r.high r.low ≡ Some (size r)
      part f =
          let wide : 1 < width r.name = omega (arith, fits.0, fits.1, fits.2, f) in
          let within : r.high < width r.name = omega (arith, fits.0, fits.2) in
          cond-true (nat_lt 1 (width r.name) && (nat_le r.low r.high && nat_lt r.high (width r.name))) (Some (size r)) _
          (and_from (nat_lt 1 (width r.name)) (nat_le r.low r.high && nat_lt r.high (width r.name)) (lt-ltb 1 (width r.name) wide)
          (and_from (nat_le r.low r.high) (nat_lt r.high (width r.name)) (le-leb r.low r.high fits.1) (lt-ltb r.high (width r.name) within)))

  all_width : (rs : List Run) → AllByRecursion (FitsRun width) rs → sum_of (map (expr_width width) (map run_expr rs)) ≡ Some (total rs)
  all_width [] fits = refl
  all_width (r ∷ rs) fits = λ i. option_and_then (λ (first : ℕ). option_map (λ (rest : ℕ). first + rest) (all_width rs fits.1 i)) (run_width r fits.0 i)

  braces_width : (rs : List Run) → 0 < length rs → total rs ≤ 128 → AllByRecursion (FitsRun width) rs → expr_width width (in_braces (map run_expr rs)) ≡ Some (total rs)
  braces_width [] some few fits = absurd (omega arith)
  braces_width (r ∷ []) some few fits = run_width r fits.0 ∙ ap Some (omega arith)
  braces_width (r ∷ s ∷ rs) some few fits =
      fold-Join (Option ℕ) (form_width width) (run_expr r) (run_expr s) (map run_expr rs)
      ∙ (ap (option_and_then at_most_128) (all_width (r ∷ s ∷ rs) fits)
      ∙ cond-true (nat_le (total (r ∷ s ∷ rs)) 128) (Some (total (r ∷ s ∷ rs))) _ (le-leb (total (r ∷ s ∷ rs)) 128 few))

length-bits : (n : Netlist) (bits : List ℕ) → length (map (bit_on n) bits) ≡ length bits
length-bits n [] = refl
length-bits n (net ∷ bits) = ap suc (length-bits n bits)

total_runs : (width : List ℕ → ℕ) (n : Netlist) (bits : List ℕ) → FitWidths width n bits → total (runs (map (bit_on n) bits)) ≡ length bits
total_runs width n bits fit =
    let whole = total_fold width [] (map (bit_on n) bits) tt (each_bit (FitsBit width) n bits fit) in
    omega (arith, whole, length-bits n bits)

pub bits_width : (width : List ℕ → ℕ) (n : Netlist) (bits : List ℕ) → 0 < length bits → length bits ≤ 128 → FitWidths width n bits → expr_width width (bits_value n bits) ≡ Some (length bits)
bits_width width n bits some few fit =
    let same = total_runs width n bits fit in
    braces_width width (runs (map (bit_on n) bits)) (runs-some n bits some) (omega (arith, same)) (fitting_runs width n bits fit) ∙ ap Some same

-- ---- what holds at each form

module _ (here : Expr-F Expr → Bool) where
  abbrev IsFine : Expr → Type 0
  IsFine e = holds_inside here e ≡ true

  -- the test holds at each of the forms that runs are written in
  record HoldsAtRuns : Type 0 where
    whole : (name : List ℕ) → here (Expr-F.Whole name) ≡ true
    bit : (name : List ℕ) (at : ℕ) → here (Expr-F.Bit name at) ≡ true
    part : (name : List ℕ) (high low : ℕ) → here (Expr-F.Part name high low) ≡ true
    join : (a b : Expr) (more : List Expr) → here (Expr-F.Join a b more) ≡ true

  run_inside : HoldsAtRuns → (r : Run) → IsFine (run_expr r)
  run_inside holds r =
      run_expr-cases IsFine r
      (λ e. ap (λ (p : Expr × Bool). p.1) (fold-Whole (Expr × Bool) (form_inside here) r.name) ∙ and_from (here (Expr-F.Whole r.name)) true (holds.whole r.name) refl)
      (λ e f. ap (λ (p : Expr × Bool). p.1) (fold-Bit (Expr × Bool) (form_inside here) r.name r.low) ∙ and_from (here (Expr-F.Bit r.name r.low)) true (holds.bit r.name r.low) refl)
      (λ e f. ap (λ (p : Expr × Bool). p.1) (fold-Part (Expr × Bool) (form_inside here) r.name r.high r.low) ∙ and_from (here (Expr-F.Part r.name r.high r.low)) true (holds.part r.name r.high r.low) refl)

  all_inside : HoldsAtRuns → (rs : List Run) → list_all (λ e. e) (map (λ (p : Expr × Bool). p.1) (map (folded here) (map run_expr rs))) ≡ true
  all_inside holds [] = refl
  all_inside holds (r ∷ rs) =
      and_from (holds_inside here (run_expr r)) (list_all (λ e. e) (map (λ (p : Expr × Bool). p.1) (map (folded here) (map run_expr rs)))) (run_inside holds r) (all_inside holds rs)

  braces_inside : HoldsAtRuns → (rs : List Run) → IsFine (in_braces (map run_expr rs))
  braces_inside holds [] = ap (λ (p : Expr × Bool). p.1) (fold-Whole (Expr × Bool) (form_inside here) []) ∙ and_from (here (Expr-F.Whole [])) true (holds.whole []) refl
  braces_inside holds (r ∷ []) = run_inside holds r
  braces_inside holds (r ∷ s ∷ rs) =
      let more = list_all (λ e. e) (map (λ (p : Expr × Bool). p.1) (map (folded here) (map run_expr rs))) in
      ap (λ (p : Expr × Bool). p.1) (fold-Join (Expr × Bool) (form_inside here) (run_expr r) (run_expr s) (map run_expr rs))
      ∙ and_from (here (Expr-F.Join (folded here (run_expr r)).0 (folded here (run_expr s)).0 (map (λ (p : Expr × Bool). p.0) (map (folded here) (map run_expr rs)))))
      (more && (holds_inside here (run_expr r) && holds_inside here (run_expr s)))
      (holds.join (folded here (run_expr r)).0 (folded here (run_expr s)).0 (map (λ (p : Expr × Bool). p.0) (map (folded here) (map run_expr rs))))
      (and_from more (holds_inside here (run_expr r) && holds_inside here (run_expr s)) (all_inside holds rs)
      (and_from (holds_inside here (run_expr r)) (holds_inside here (run_expr s)) (run_inside holds r) (run_inside holds s)))

pub bits_divide : (n : Netlist) (bits : List ℕ) → 0 < length bits → holds_inside divides_safely (bits_value n bits) ≡ true
bits_divide n bits some =
    braces_inside divides_safely (record { whole = λ name. refl; bit = λ name at. refl; part = λ name high low. refl; join = λ a b more. refl }) (runs (map (bit_on n) bits))

pub bits_address : (sort : List ℕ → Option Sort) (width : List ℕ → ℕ) (n : Netlist) (bits : List ℕ) → 0 < length bits → all_address sort width (bits_value n bits) ≡ true
bits_address sort width n bits some =
    braces_inside (address_fits sort width) (record { whole = λ name. refl; bit = λ name at. refl; part = λ name high low. refl; join = λ a b more. refl }) (runs (map (bit_on n) bits))

-- ---- depth

run_depth : (r : Run) → depth (run_expr r) ≡ 1
unfolding depth
run_depth r =
    run_expr-cases (λ e. depth e ≡ 1) r (λ e. fold-Whole ℕ form_depth r.name) (λ e f. fold-Bit ℕ form_depth r.name r.low) (λ e f. fold-Part ℕ form_depth r.name r.high r.low)

all_depth : (rs : List Run) → greatest (map depth (map run_expr rs)) ≤ 1
all_depth [] = omega arith
all_depth (r ∷ rs) = let here = run_depth r in let rest = all_depth rs in omega (arith, here, rest)

braces_depth : (rs : List Run) → depth (in_braces (map run_expr rs)) ≤ 2
unfolding depth
braces_depth [] = subst (λ (k : ℕ). k ≤ 2) (sym (fold-Whole ℕ form_depth [])) (omega arith)
braces_depth (r ∷ []) = subst (λ (k : ℕ). k ≤ 2) (sym (run_depth r)) (omega arith)
braces_depth (r ∷ s ∷ rs) =
    let all = all_depth (r ∷ s ∷ rs) in
    subst (λ (k : ℕ). k ≤ 2) (sym (fold-Join ℕ form_depth (run_expr r) (run_expr s) (map run_expr rs))) (omega (arith, all))

pub bits_depth : (n : Netlist) (bits : List ℕ) → depth (bits_value n bits) ≤ 2
bits_depth n bits = braces_depth (runs (map (bit_on n) bits))

-- ---- numbers

-- the number of a run, and of some, of which the highest stands first
abbrev run_number : Valuation → Run → ℕ
run_number value r = value r.name / 2 ^ r.low % 2 ^ size r

abbrev runs_number : Valuation → List Run → ℕ
runs_number value [] = 0
runs_number value (r ∷ rs) = run_number value r * 2 ^ total rs + runs_number value rs

-- a bit at its index in a number
abbrev bit_number : Valuation → NamedBit → ℕ
bit_number value b = bit_at (value b.name) b.index

-- a number of some bits with one more on top
one_more : (n low size high : ℕ) → high ≡ low + size → n / 2 ^ low % 2 ^ (size + 1) ≡ bit_at n high * 2 ^ size + n / 2 ^ low % 2 ^ size
one_more n low size high e =
    let turned : size + 1 ≡ 1 + size = omega arith in
    ap (λ (k : ℕ). n / 2 ^ low % 2 ^ k) turned
    ∙ (mod-pow-add (n / 2 ^ low) 1 size
    ∙ ap (λ (k : ℕ). k % 2 ^ 1 * 2 ^ size + n / 2 ^ low % 2 ^ size) (shr-shr n low size ∙ ap (λ (k : ℕ). n / 2 ^ k) (sym e)))

-- a step up: the bits of a run above those of the lower ones
above : (digit run here lower rest : ℕ) → (digit * 2 ^ here + run) * 2 ^ lower + rest ≡ digit * 2 ^ (here + lower) + (run * 2 ^ lower + rest)
above digit run here lower rest = rw (pow-add 2 here lower) (omega arith)

module _ (width : List ℕ → ℕ) (value : Valuation) where
  number_of_one : (b : NamedBit) → run_number value (run_of b) ≡ bit_number value b
  number_of_one b = let one : b.index + 1 - b.index ≡ 1 = omega arith in ap (λ (k : ℕ). value b.name / 2 ^ b.index % 2 ^ k) one

  number_on_top : (rs : List Run) (b : NamedBit) → AllByRecursion (FitsRun width) rs → runs_number value (on_top rs b) ≡ bit_number value b * 2 ^ total rs + runs_number value rs
  number_on_top [] b fits = omega (arith, number_of_one b)
  number_on_top (r ∷ lower) b fits =
      on_top-cases (λ rs. runs_number value rs ≡ bit_number value b * 2 ^ total (r ∷ lower) + runs_number value (r ∷ lower)) r lower b more apart
    where
      more : goes_on r b ≡ true → runs_number value (grown r b ∷ lower) ≡ bit_number value b * 2 ^ total (r ∷ lower) + runs_number value (r ∷ lower)
      more e =
          let next = going_on r b e in
          let ordered : r.low ≤ r.high = fits.0.1 in
          let index : b.index ≡ r.low + size r = omega (arith, next.1) in
          ap (λ (k : ℕ). value r.name / 2 ^ r.low % 2 ^ k * 2 ^ total lower + runs_number value lower) (size_grown width r b fits.0 e)
          ∙ (ap (λ (k : ℕ). k * 2 ^ total lower + runs_number value lower) (one_more (value r.name) r.low (size r) b.index index ∙ ap (λ (name : List ℕ). bit_at (value name) b.index * 2 ^ size r + run_number value r) next.0)
          ∙ above (bit_number value b) (run_number value r) (size r) (total lower) (runs_number value lower))

      apart : runs_number value (run_of b ∷ r ∷ lower) ≡ bit_number value b * 2 ^ total (r ∷ lower) + runs_number value (r ∷ lower)
      apart = ap (λ (k : ℕ). k * 2 ^ total (r ∷ lower) + runs_number value (r ∷ lower)) (number_of_one b)

-- ---- numbers, bit by bit

-- a bit on a net below some others
lifted : (digit more whole under here : ℕ) → whole ≡ digit * 2 ^ here + under → whole + 2 ^ (here + 1) * more ≡ under + 2 ^ here * (digit + 2 * more)
lifted digit more whole under here e = rw (pow-add 2 here 1) (omega (arith, e))

module _ (width : List ℕ → ℕ) (value : Valuation) (n : Netlist) (bit : ℕ → Bit) where
  -- each of these nets is a bit of a name of this width, and its digit is the bit of the name's number
  record AreDigits (bits : List ℕ) : Type 0 where
    fit : FitWidths width n bits
    digits : (net : ℕ) → Contains bits net → bit_number value (bit_on n net) ≡ digit_of (bit net)

  digits_tail : (net : ℕ) (bits : List ℕ) → AreDigits (net ∷ bits) → AreDigits bits
  digits_tail net bits are = record { fit = λ other h. are.fit other (in_tail net other bits h); digits = λ other h. are.digits other (in_tail net other bits h) }

  number_fold : (rs : List Run) (bits : List ℕ) → AllByRecursion (FitsRun width) rs → AreDigits bits
      → runs_number value (fold on_top rs (map (bit_on n) bits)) ≡ runs_number value rs + 2 ^ total rs * word_number (map bit bits)
  number_fold rs [] fits are = rw number_of_nil (omega arith)
  number_fold rs (net ∷ bits) fits are =
      let b = bit_on n net in
      let here : Contains (net ∷ bits) net = (0, omega arith, refl) in
      let kept = on_top-keeps (FitsBit width) (FitsRun width) (run_fits width) (grown_fits width) rs b fits (are.fit net here) in
      number_fold (on_top rs b) bits kept (digits_tail net bits are)
      ∙ (ap (λ (k : ℕ). runs_number value (on_top rs b) + 2 ^ k * word_number (map bit bits)) (total_on_top width rs b fits)
      ∙ (lifted (bit_number value b) (word_number (map bit bits)) (runs_number value (on_top rs b)) (runs_number value rs) (total rs) (number_on_top width value rs b fits)
      ∙ (ap (λ (d : ℕ). runs_number value rs + 2 ^ total rs * (d + 2 * word_number (map bit bits))) (are.digits net here)
      ∙ ap (λ (k : ℕ). runs_number value rs + 2 ^ total rs * k) (sym (number_of-cons (bit net) (map bit bits))))))

  runs_number-word : (bits : List ℕ) → AreDigits bits → runs_number value (runs (map (bit_on n) bits)) ≡ word_number (map bit bits)
  runs_number-word bits are = let whole = number_fold [] bits tt are in omega (arith, whole)

-- ---- numbers, as expressions have them

module _ (m : Module) (kept : Kept) (value : Valuation) where
  abbrev step : Expr-F (ℕ × ℕ) → ℕ × ℕ
  step = form_number (width_of m) (memory_words m kept) value

  abbrev pair_of : Expr → ℕ × ℕ
  pair_of e = fold-Expr (ℕ × ℕ) step e

  abbrev run_pair : Run → ℕ × ℕ
  run_pair r = (size r, run_number value r)

  -- a run of a name whose number fits its width
  abbrev HasNumber : Run → Type 0
  HasNumber r = FitsRun (width_of m) r × (value r.name < 2 ^ r.width)

  run_pair-is : (r : Run) → HasNumber r → pair_of (run_expr r) ≡ run_pair r
  run_pair-is r fits =
      run_expr-cases (λ e. pair_of e ≡ run_pair r) r
      (λ e. fold-Whole (ℕ × ℕ) step r.name ∙ whole e)
      (λ e f. fold-Bit (ℕ × ℕ) step r.name r.low ∙ bit f)
      (λ e f. fold-Part (ℕ × ℕ) step r.name r.high r.low)
    where
      whole : r.high + 1 ≡ r.low + r.width → ◌≡◌ {A = ℕ × ℕ} (width_of m r.name, value r.name) (run_pair r)
      whole e =
          let none : 0 ≡ r.low = omega (arith, e, fits.0.2) in
          let all : r.width ≡ size r = omega (arith, e, none) in
          let low : value r.name < 2 ^ size r = subst (λ (w : ℕ). value r.name < 2 ^ w) all fits.1 in
          let same : value r.name ≡ run_number value r =
          sym (mod-eq_of_lt low) ∙ ap (λ (k : ℕ). k % 2 ^ size r) (sym (div-one (value r.name)) ∙ ap (λ (k : ℕ). value r.name / 2 ^ k) none) in
          λ i. ((fits.0.0 ∙ all) i, same i)

      bit : r.high ≡ r.low → ◌≡◌ {A = ℕ × ℕ} (1, bit_at (value r.name) r.low) (run_pair r)
      bit f = let one : 1 ≡ size r = omega (arith, f) in λ i. (one i, value r.name / 2 ^ r.low % 2 ^ one i)

  -- words in braces below a first one
  braces_pair : (rs : List Run) (first : ℕ × ℕ) → AllByRecursion HasNumber rs
      → fold joined first (map pair_of (map run_expr rs)) ≡ (first.0 + total rs, first.1 * 2 ^ total rs + runs_number value rs)
  braces_pair [] first fits =
      let wide : first.0 ≡ first.0 + 0 = omega arith in
      let same : first.1 ≡ first.1 * 2 ^ 0 + 0 = omega arith in
      λ i. (wide i, same i)
  braces_pair (r ∷ rs) first fits =
      let wide : first.0 + size r + total rs ≡ first.0 + (size r + total rs) = omega arith in
      let same = above first.1 (run_number value r) (size r) (total rs) (runs_number value rs) in
      ap (λ (p : ℕ × ℕ). fold joined (joined first p) (map pair_of (map run_expr rs))) (run_pair-is r fits.0)
      ∙ (braces_pair rs (joined first (run_pair r)) fits.1 ∙ (λ i. (wide i, same i)))

  braces_number : (rs : List Run) → 0 < length rs → AllByRecursion HasNumber rs → number_of m kept value (in_braces (map run_expr rs)) ≡ runs_number value rs
  braces_number [] some fits = absurd (omega arith)
  braces_number (r ∷ []) some fits = ap (λ (p : ℕ × ℕ). p.1) (run_pair-is r fits.0) ∙ omega arith
  braces_number (r ∷ s ∷ rs) some fits =
      ap (λ (p : ℕ × ℕ). p.1)
      (fold-Join (ℕ × ℕ) step (run_expr r) (run_expr s) (map run_expr rs)
      ∙ (ap (λ (p : ℕ × ℕ). fold joined p (map pair_of (map run_expr (s ∷ rs)))) (run_pair-is r fits.0) ∙ braces_pair (s ∷ rs) (run_pair r) fits.1))

pub bits_number : (m : Module) (kept : Kept) (value : Valuation) (n : Netlist) (bits : List ℕ) (bit : ℕ → Bit) → 0 < length bits → FitWidths (width_of m) n bits
    → ((net : ℕ) → Contains bits net → value (bit_on n net).name < 2 ^ (bit_on n net).width)
    → ((net : ℕ) → Contains bits net → bit_at (value (bit_on n net).name) (bit_on n net).index ≡ digit_of (bit net))
    → number_of m kept value (bits_value n bits) ≡ word_number (map bit bits)
bits_number m kept value n bits bit some fit small digits =
    braces_number m kept value (runs (map (bit_on n) bits)) (runs-some n bits some) numbers
    ∙ runs_number-word (width_of m) value n bit bits (record { fit = fit; digits = digits })
  where
    numbers : AllByRecursion (HasNumber m kept value) (runs (map (bit_on n) bits))
    numbers =
        runs-keep (λ (b : NamedBit). FitsBit (width_of m) b × (value b.name < 2 ^ b.width)) (HasNumber m kept value)
        (λ b h. (run_fits (width_of m) b h.0, h.1)) (λ r b all h e. (grown_fits (width_of m) r b all.0 h.0 e, all.1)) [] (map (bit_on n) bits) tt
        (each_bit (λ (b : NamedBit). FitsBit (width_of m) b × (value b.name < 2 ^ b.width)) n bits (λ net h. (fit net h, small net h)))
