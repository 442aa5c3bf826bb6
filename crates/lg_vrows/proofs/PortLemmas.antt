-- What the rules say of the ports of a valid module: their names begin with two marks, their widths are 1 to 64, and their names differ.
use Rattle.std.proofs.Common.{◌≡◌, ℕ, ◌≤◌, nat_le, Bool, true, false, cond, List, [], ◌∷◌, ◌++◌, map, drop, take, Option, Some, None, refl, sym, ap, subst, ◌∙◌, inl, inr, arith}
use Rattle.std.specs.Prelude.{All, filter}
use Rattle.std.specs.List.{AllByRecursion, list_all, IsDistinct}
use Rattle.std.specs.Str.{bytes_eq}
use Rattle.std.proofs.lemmas.Bool.{and_parts, false≢true}
use Rattle.std.proofs.lemmas.Bool.Decides.{nat_tests}
use Rattle.std.proofs.lemmas.List.Elements.{All-from_recursion, All-map}
use Rattle.std.proofs.lemmas.Map.Keys.{IsDistinct-cons}
use Rattle.std.proofs.lemmas.Slice.Eq.{bytes_eq-Decides}
use Rattle.lg_value.specs.Word.{IsWidth}
use Rattle.lg_vectors.specs.Binding.{pin_names}
use Rattle.lg_vtree.specs.declared.module.Decl.{Decl}
use Rattle.lg_vtree.specs.declared.module.Decl.TheVariants as decl
use Rattle.lg_vtree.specs.declared.module.Port.{Port}
use Rattle.lg_vtree.specs.declared.module.Module.{Module}
use Rattle.lg_vrules.specs.declared.names.Sort.{Sort}
use Rattle.lg_vrules.specs.declared.names.Sort.TheVariants as sort
use Rattle.lg_vrules.specs.Things.{range_width, port_thing, decl_thing, things, names, lines_of, names_of, is_input, is_output}
use Rattle.lg_vrules.specs.Rules.{all_differ, begins_with, is_named, is_narrow}
use Rattle.lg_vrules.proofs.RuleLemmas.{KeepsRules, rules_kept}
use Rattle.lg_vmeaning.specs.declared.ports.PortLine.{PortLine}
use Rattle.lg_vmeaning.specs.InOrder.{IsIn, AllDiffer}
use Rattle.lg_vmeaning.specs.Ports.{port_line, port_lines}
use Rattle.lg_vmeaning.specs.Valid.{IsValid}
use Rattle.lg_vmeaning.proofs.NameLemmas.{Named, lines_in, differ_in}
use Rattle.lg_vrows.specs.Rows.{plain, input_pin, input_pins}
use Rattle.lg_vrows.specs.Steps.{IsMarked, IsPrinted, lines}

abbrev pub Line : Type 0
Line = List ℕ × ℕ

-- names and widths are those of the lines
pub lines_same : (all : List Line) → lines (map port_line all) ≡ all
lines_same [] = refl
lines_same (l ∷ all) = ap (λ (more : List Line). l ∷ more) (lines_same all)

-- what is declared inside a module is no port
no_input : (d : Decl) → is_input (decl_thing d).1.sort ≡ false
no_input (decl.Wire range name) = refl
no_input (decl.Reg range name start) = refl
no_input (decl.Memory range name last) = refl

no_output : (d : Decl) → is_output (decl_thing d).1.sort ≡ false
no_output (decl.Wire range name) = refl
no_output (decl.Reg range name start) = refl
no_output (decl.Memory range name last) = refl

-- what holds of each port of a sort that passes a test holds of the sort's lines
ports_hold : (is : Sort → Bool) (test : Named → Bool) (P : Line → Type 0) → ((d : Decl) → is (decl_thing d).1.sort ≡ false) → ((t : Named) → is t.1.sort ≡ true → test t ≡ true → P (t.0, range_width t.1.high))
    → (ports : List Port) (decls : List Decl) → list_all (λ (p : Port). test (port_thing p)) ports ≡ true → AllByRecursion P (lines_in is (map port_thing ports ++ map decl_thing decls))
ports_hold is test P none holds [] [] pass = tt
ports_hold is test P none holds [] (d ∷ decls) pass = step (is (decl_thing d).1.sort) (none d) (ports_hold is test P none holds [] decls pass)
  where
    step : (b : Bool) → b ≡ false → AllByRecursion P (lines_in is (map decl_thing decls))
        → AllByRecursion P (map (λ (t : Named). (t.0, range_width t.1.high)) (cond b (decl_thing d ∷ filter (λ (t : Named). is t.1.sort) (map decl_thing decls)) (filter (λ (t : Named). is t.1.sort) (map decl_thing decls))))
    step true e rest = absurd (cc e)
    step false e rest = rest
ports_hold is test P none holds (p ∷ ports) decls pass =
    let both = and_parts (test (port_thing p)) (list_all (λ (p : Port). test (port_thing p)) ports) pass in
    step (is (port_thing p).1.sort) refl both.0 (ports_hold is test P none holds ports decls both.1)
  where
    step : (b : Bool) → is (port_thing p).1.sort ≡ b → test (port_thing p) ≡ true → AllByRecursion P (lines_in is (map port_thing ports ++ map decl_thing decls))
        → AllByRecursion P (map (λ (t : Named). (t.0, range_width t.1.high)) (cond b (port_thing p ∷ filter (λ (t : Named). is t.1.sort) (map port_thing ports ++ map decl_thing decls)) (filter (λ (t : Named). is t.1.sort) (map port_thing ports ++ map decl_thing decls))))
    step true e passes rest = (holds (port_thing p) e passes, rest)
    step false e passes rest = rest

-- the name is a letter, an underscore, and what is behind them
abbrev pub IsAfter : ℕ → List ℕ → Type 0
IsAfter letter name = name ≡ letter ∷ 95 ∷ drop 2 name

after_mark : (letter : ℕ) (name : List ℕ) → begins_with (letter ∷ 95 ∷ []) name ≡ true → IsAfter letter name
after_mark letter name begins = parts name ((bytes_eq-Decides (take 2 name) (letter ∷ 95 ∷ [])).0 begins)
  where
    parts : (name : List ℕ) → take 2 name ≡ letter ∷ 95 ∷ [] → IsAfter letter name
    parts [] e = absurd (cc e)
    parts (a ∷ []) e = absurd (cc e)
    parts (a ∷ b ∷ more) e =
        let first : a ≡ letter = cc e in
        let second : b ≡ 95 = cc e in
        λ i. first i ∷ second i ∷ more

pub marked : (letter : ℕ) (name : List ℕ) → IsAfter letter name → IsMarked name
marked letter name e = subst IsMarked (sym e) (two letter (drop 2 name))
  where
    two : (letter : ℕ) (more : List ℕ) → IsMarked (letter ∷ 95 ∷ more)
    two letter more = record { long = omega arith; ascii = omega arith }

named_input : (t : Named) → is_input t.1.sort ≡ true → is_named t ≡ true → IsAfter 105 t.0
named_input t is named = by t.1.sort refl
  where
    by : (s : Sort) → t.1.sort ≡ s → IsAfter 105 t.0
    by sort.Input e = after_mark 105 t.0 (sym (ap (λ (s : Sort). is_named (t.0, record { sort = s; high = t.1.high })) e) ∙ named)
    by sort.Clock e = absurd (false≢true (sym (ap is_input e) ∙ is))
    by sort.Output e = absurd (false≢true (sym (ap is_input e) ∙ is))
    by sort.Wire e = absurd (false≢true (sym (ap is_input e) ∙ is))
    by sort.Reg e = absurd (false≢true (sym (ap is_input e) ∙ is))
    by (sort.Memory last) e = absurd (false≢true (sym (ap is_input e) ∙ is))

named_output : (t : Named) → is_output t.1.sort ≡ true → is_named t ≡ true → IsAfter 111 t.0
named_output t is named = by t.1.sort refl
  where
    by : (s : Sort) → t.1.sort ≡ s → IsAfter 111 t.0
    by sort.Output e = after_mark 111 t.0 (sym (ap (λ (s : Sort). is_named (t.0, record { sort = s; high = t.1.high })) e) ∙ named)
    by sort.Clock e = absurd (false≢true (sym (ap is_output e) ∙ is))
    by sort.Input e = absurd (false≢true (sym (ap is_output e) ∙ is))
    by sort.Wire e = absurd (false≢true (sym (ap is_output e) ∙ is))
    by sort.Reg e = absurd (false≢true (sym (ap is_output e) ∙ is))
    by (sort.Memory last) e = absurd (false≢true (sym (ap is_output e) ∙ is))

some_bits : (high : Option ℕ) → 1 ≤ range_width high
some_bits None = omega arith
some_bits (Some n) = omega arith

at_most : (a b : ℕ) → nat_le a b ≡ true → a ≤ b
at_most a b e = grind (arith, nat_tests)

narrow_output : (t : Named) → is_output t.1.sort ≡ true → is_narrow t ≡ true → IsWidth (range_width t.1.high)
narrow_output t is narrow = by t.1.sort refl
  where
    by : (s : Sort) → t.1.sort ≡ s → IsWidth (range_width t.1.high)
    by sort.Output e = (some_bits t.1.high, at_most (range_width t.1.high) 64 (sym (ap (λ (s : Sort). is_narrow (t.0, record { sort = s; high = t.1.high })) e) ∙ narrow))
    by sort.Clock e = absurd (false≢true (sym (ap is_output e) ∙ is))
    by sort.Input e = absurd (false≢true (sym (ap is_output e) ∙ is))
    by sort.Wire e = absurd (false≢true (sym (ap is_output e) ∙ is))
    by sort.Reg e = absurd (false≢true (sym (ap is_output e) ∙ is))
    by (sort.Memory last) e = absurd (false≢true (sym (ap is_output e) ∙ is))

none_differ : IsDistinct bytes_eq []
unfolding IsDistinct
none_differ = tt

-- both of a list's facts
both : (P Q R : Line → Type 0) → ((l : Line) → P l → Q l → R l) → (all : List Line) → AllByRecursion P all → AllByRecursion Q all → AllByRecursion R all
both P Q R join [] ps qs = tt
both P Q R join (l ∷ all) ps qs = (join l ps.0 qs.0, both P Q R join all ps.1 qs.1)

each_weaker : (P Q : Line → Type 0) → ((l : Line) → P l → Q l) → (all : List Line) → AllByRecursion P all → AllByRecursion Q all
each_weaker P Q gives [] ps = tt
each_weaker P Q gives (l ∷ all) ps = (gives l ps.0, each_weaker P Q gives all ps.1)

module _ (m : Module) (valid : IsValid m) where
  kept_rules : KeepsRules m
  kept_rules = rules_kept m valid.rules

  all_named : list_all (λ (p : Port). is_named (port_thing p)) m.ports ≡ true
  all_named = (and_parts (all_differ (names m)) (list_all (λ (p : Port). is_named (port_thing p)) m.ports) kept_rules.named).1

  all_narrow : list_all (λ (p : Port). is_narrow (port_thing p)) m.ports ≡ true
  all_narrow = (and_parts (list_all (λ (p : Port). is_narrow (port_thing p)) m.ports) _ kept_rules.narrow).0

  -- each input's name begins with `i_`
  pub inputs_named : AllByRecursion (λ (l : Line). IsAfter 105 l.0) (lines_of is_input m)
  inputs_named = ports_hold is_input is_named (λ (l : Line). IsAfter 105 l.0) no_input named_input m.ports m.decls all_named

  outputs_named : AllByRecursion (λ (l : Line). IsAfter 111 l.0) (lines_of is_output m)
  outputs_named = ports_hold is_output is_named (λ (l : Line). IsAfter 111 l.0) no_output named_output m.ports m.decls all_named

  outputs_narrow : AllByRecursion (λ (l : Line). IsWidth l.1) (lines_of is_output m)
  outputs_narrow = ports_hold is_output is_narrow (λ (l : Line). IsWidth l.1) no_output narrow_output m.ports m.decls all_narrow

  -- so the names of inputs can be cut behind it
  pub inputs_marked : All (λ (line : PortLine). IsMarked line.name) (port_lines is_input m)
  inputs_marked =
      All-map (λ (line : PortLine). IsMarked line.name) port_line (lines_of is_input m)
      (All-from_recursion (λ (l : Line). IsMarked l.0) (lines_of is_input m)
      (each_weaker (λ (l : Line). IsAfter 105 l.0) (λ (l : Line). IsMarked l.0) (λ l e. marked 105 l.0 e) (lines_of is_input m) inputs_named))

  -- and those of outputs, which have widths of words
  pub outputs_printed : All IsPrinted (port_lines is_output m)
  outputs_printed =
      All-map IsPrinted port_line (lines_of is_output m)
      (All-from_recursion (λ (l : Line). IsPrinted (port_line l)) (lines_of is_output m)
      (both (λ (l : Line). IsAfter 111 l.0) (λ (l : Line). IsWidth l.1) (λ (l : Line). IsPrinted (port_line l)) (λ l e w. record { marked = marked 111 l.0 e; width = w }) (lines_of is_output m) outputs_named outputs_narrow))

  inputs_differ : AllDiffer (names_of is_input m)
  inputs_differ = differ_in is_input (things m) (and_parts (all_differ (names m)) (list_all (λ (p : Port). is_named (port_thing p)) m.ports) kept_rules.named).0

  -- inputs differ without their `i_` too
  pub pins_differ : IsDistinct bytes_eq (pin_names (input_pins m))
  pins_differ = from_lines (lines_of is_input m) inputs_named inputs_differ
    where
      same_name : (l other : Line) → IsAfter 105 l.0 → IsAfter 105 other.0 → plain l.0 ≡ plain other.0 → l.0 ≡ other.0
      same_name l other e f same = e ∙ (ap (λ (more : List ℕ). 105 ∷ 95 ∷ more) same ∙ sym f)

      apart : (l : Line) (all : List Line) → IsAfter 105 l.0 → AllByRecursion (λ (l : Line). IsAfter 105 l.0) all → (IsIn (map (λ (l : Line). l.0) all) l.0 → ⊥)
          → AllByRecursion (λ (y : List ℕ). bytes_eq (plain l.0) y ≡ false) (pin_names (map input_pin all))
      apart l [] e each fresh = tt
      apart l (other ∷ all) e each fresh = (test (bytes_eq (plain l.0) (plain other.0)) refl, apart l all e each.1 (λ here. fresh (inr here)))
        where
          test : (b : Bool) → bytes_eq (plain l.0) (plain other.0) ≡ b → bytes_eq (plain l.0) (plain other.0) ≡ false
          test false f = f
          test true f = absurd (fresh (inl (same_name l other e each.0 ((bytes_eq-Decides (plain l.0) (plain other.0)).0 f))))

      from_lines : (all : List Line) → AllByRecursion (λ (l : Line). IsAfter 105 l.0) all → AllDiffer (map (λ (l : Line). l.0) all) → IsDistinct bytes_eq (pin_names (map input_pin all))
      from_lines [] each differ = none_differ
      from_lines (l ∷ all) each differ =
          IsDistinct-cons bytes_eq (plain l.0) (pin_names (map input_pin all)) (apart l all each.0 each.1 differ.0) (from_lines all each.1 differ.1)
