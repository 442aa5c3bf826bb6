-- What an index of a module's names tells is what the module declares.
use Rattle.std.proofs.Common.{◌≡◌, ℕ, ◌+◌, ◌≤◌, Bool, true, false, cond, ◌&&◌, List, [], ◌∷◌, map, Option, Some, None, refl, sym, subst, ◌∙◌, arith, rules}
use Rattle.std.specs.Prelude.{nat_le, option_map, unwrap_or}
use Rattle.std.specs.List.{list_all}
use Rattle.std.specs.Map.{lookup}
use Rattle.std.specs.Str.{bytes_eq}
use Rattle.std.proofs.lemmas.Bool.{and_parts}
use Rattle.std.proofs.lemmas.List.Folds.{list_all-append, list_all-map}
use Rattle.lg_vtree.specs.declared.module.Assign.{Assign}
use Rattle.lg_vtree.specs.declared.module.Module.{Module}
use Rattle.lg_vrules.specs.declared.names.Sort.{Sort}
use Rattle.lg_vrules.specs.declared.names.Sort.TheVariants as sort
use Rattle.lg_vrules.specs.declared.names.Thing.{Thing}
use Rattle.lg_vrules.specs.declared.names.NameIndex.{NameIndex}
use Rattle.lg_vrules.specs.Things.{range_width}
use Rattle.lg_vrules.specs.Things.{is_assignable, things, port_thing, decl_thing, sort_of, width_of}
use Rattle.lg_vrules.specs.Rules.{most_bits, is_narrow, are_narrow, first_false, are_fitting, are_used, are_assigned_once, are_kept_once, are_addressed, are_named, are_divided_safely, first_broken, all_differ, assigned, is_of, has_each, is_among}
use Rattle.lg_vrules.specs.Known.{sort_under, width_under, KnowsThings, AreNarrow}

pub sort_is : (m : Module) (index : NameIndex) → KnowsThings (things m) index → sort_under index ≡ sort_of m
sort_is m index knows = λ i name. option_map (λ (t : Thing). t.sort) (knows.known name i)

pub width_is : (m : Module) (index : NameIndex) → KnowsThings (things m) index → width_under index ≡ width_of m
width_is m index knows = λ i name. unwrap_or (option_map (λ (t : Thing). range_width t.high) (knows.known name i)) 0

pub fits_is : (m : Module) (index : NameIndex) → KnowsThings (things m) index → are_fitting (sort_of m) (width_of m) m ≡ are_fitting (sort_under index) (width_under index) m
fits_is m index knows = sym (λ i. are_fitting (sort_is m index knows i) (width_is m index knows i) m)

pub addressed_is : (m : Module) (index : NameIndex) → KnowsThings (things m) index → are_addressed (sort_of m) (width_of m) m ≡ are_addressed (sort_under index) (width_under index) m
addressed_is m index knows = sym (λ i. are_addressed (sort_is m index knows i) (width_is m index knows i) m)

pub used_is : (m : Module) (index : NameIndex) → KnowsThings (things m) index → are_used (sort_of m) m ≡ are_used (sort_under index) m
used_is m index knows = sym (λ i. are_used (sort_is m index knows i) m)

pub assigned_is : (m : Module) (index : NameIndex) → KnowsThings (things m) index → are_assigned_once (sort_of m) m ≡ are_assigned_once (sort_under index) m
assigned_is m index knows = sym (λ i. are_assigned_once (sort_is m index knows i) m)

pub kept_is : (m : Module) (index : NameIndex) → KnowsThings (things m) index → are_kept_once (sort_of m) m ≡ are_kept_once (sort_under index) m
kept_is m index knows = sym (λ i. are_kept_once (sort_is m index knows i) m)

narrow_thing : (t : List ℕ × Thing) → is_narrow t ≡ true → range_width t.1.high ≤ 128
narrow_thing t e = low (range_width t.1.high) t.1.sort e
  where
    at_most : (width most : ℕ) → most ≤ 128 → nat_le width most ≡ true → width ≤ 128
    at_most width most h e = let small : width ≤ most = search rules in omega (arith, small, h)

    low : (width : ℕ) (s : Sort) → nat_le width (most_bits s) ≡ true → width ≤ 128
    low width sort.Clock e = at_most width 128 (omega arith) e
    low width sort.Input e = at_most width 64 (omega arith) e
    low width sort.Output e = at_most width 64 (omega arith) e
    low width sort.Wire e = at_most width 128 (omega arith) e
    low width sort.Reg e = at_most width 128 (omega arith) e
    low width (sort.Memory last) e = at_most width 128 (omega arith) e

narrow_under : (some : List (List ℕ × Thing)) (name : List ℕ) → list_all is_narrow some ≡ true → unwrap_or (option_map (λ (t : Thing). range_width t.high) (lookup (λ other. bytes_eq other name) some)) 0 ≤ 128
narrow_under [] name e = omega arith
narrow_under (t ∷ some) name e =
    let parts = and_parts (is_narrow t) (list_all is_narrow some) e in
    step (bytes_eq t.0 name) (lookup (λ other. bytes_eq other name) some) (narrow_thing t parts.0) (narrow_under some name parts.1)
  where
    step : (b : Bool) (rest : Option Thing) → range_width t.1.high ≤ 128 → unwrap_or (option_map (λ (t : Thing). range_width t.high) rest) 0 ≤ 128
        → unwrap_or (option_map (λ (t : Thing). range_width t.high) (cond b (Some t.1) rest)) 0 ≤ 128
    step true rest h k = h
    step false rest h k = k

pub narrow_widths : (m : Module) → are_narrow m ≡ true → (name : List ℕ) → width_of m name ≤ 128
narrow_widths m e = λ name. narrow_under (things m) name all
  where
    all : list_all is_narrow (things m) ≡ true
    all = list_all-append is_narrow (map port_thing m.ports) (map decl_thing m.decls) ∙ (rw (list_all-map is_narrow port_thing m.ports, list_all-map is_narrow decl_thing m.decls) e)

pub narrow_names : (m : Module) (index : NameIndex) → KnowsThings (things m) index → are_narrow m ≡ true → AreNarrow index
narrow_names m index knows e = λ name. subst (λ (width : List ℕ → ℕ). width name ≤ 128) (sym (width_is m index knows)) (narrow_widths m e name)

-- tests of which one does not hold

pub third : {a : Bool} (b c d e : Bool) → a ≡ false → Some 3 ≡ first_false 3 (a ∷ b ∷ c ∷ d ∷ e ∷ [])
third b c d e p = rw p refl

pub fourth : {a b : Bool} (c d e : Bool) → a ≡ true → b ≡ false → Some 4 ≡ first_false 3 (a ∷ b ∷ c ∷ d ∷ e ∷ [])
fourth c d e p q = rw (p, q) refl

pub fifth : {a b c : Bool} (d e : Bool) → a ≡ true → b ≡ true → c ≡ false → Some 5 ≡ first_false 3 (a ∷ b ∷ c ∷ d ∷ e ∷ [])
fifth d e p q r = rw (p, q, r) refl

pub sixth : {a b c d : Bool} (e : Bool) → a ≡ true → b ≡ true → c ≡ true → d ≡ false → Some 6 ≡ first_false 3 (a ∷ b ∷ c ∷ d ∷ e ∷ [])
sixth e p q r s = rw (p, q, r, s) refl

pub seventh : {a b c d e : Bool} → a ≡ true → b ≡ true → c ≡ true → d ≡ true → e ≡ false → Some 7 ≡ first_false 3 (a ∷ b ∷ c ∷ d ∷ e ∷ [])
seventh p q r s t = rw (p, q, r, s, t) refl

pub none_broken : {a b c d e : Bool} → a ≡ true → b ≡ true → c ≡ true → d ≡ true → e ≡ true → None ≡ first_false 3 (a ∷ b ∷ c ∷ d ∷ e ∷ [])
none_broken p q r s t = rw (p, q, r, s, t) refl

pub second : {a b : Bool} (c d e f g : Bool) → a ≡ true → b ≡ false → Some 2 ≡ first_false 1 (a ∷ b ∷ c ∷ d ∷ e ∷ f ∷ g ∷ [])
second c d e f g p q = rw (p, q) refl

pub third_wide : {a b n : Bool} (c d e f g : Bool) → a ≡ true → b ≡ true → n ≡ false → Some 3 ≡ first_false 1 (a ∷ b ∷ (n && c) ∷ d ∷ e ∷ f ∷ g ∷ [])
third_wide c d e f g p q r = rw (p, q, r) refl

pub later : {a b n : Bool} (c d e f g : Bool) → a ≡ true → b ≡ true → n ≡ true → first_false 3 (c ∷ d ∷ e ∷ f ∷ g ∷ []) ≡ first_false 1 (a ∷ b ∷ (n && c) ∷ d ∷ e ∷ f ∷ g ∷ [])
later c d e f g p q r = rw (p, q, r) refl
