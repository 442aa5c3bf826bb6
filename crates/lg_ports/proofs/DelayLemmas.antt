-- The delay of what goes over the bits of its operands is at least 1.
use Rattle.std.proofs.Common.{◌≡◌, ◌∙◌, sym, ap, ℕ, ◌≤◌, Bool, true, false, List, Option, Some, None, refl, arith}
use Rattle.std.specs.Prelude.{codes, IsSomeAnd}
use Rattle.std.specs.Option.{option_or, option_and_then, option_map_or, ForSome}
use Rattle.std.proofs.lemmas.Bool.{false≢true}
use Rattle.lg_kinds.specs.declared.kind.Kind.{Kind}
use Rattle.lg_kinds.specs.declared.kind.Kind.TheVariants.{Multiplier, Divider}
use Rattle.lg_kinds.specs.declared.record.Record.{Record}
use Rattle.lg_kinds.specs.declared.rows.Delay.{Delay}
use Rattle.lg_kinds.specs.declared.rows.Delay.TheVariants as delay
use Rattle.lg_kinds.specs.Rows.{KindEntry, Number}
use Rattle.lg_kinds.specs.Table.{entry, width_8_attribute}
use Rattle.lg_ports.specs.Given.{Given, component, number, number_of, value_of}
use Rattle.lg_ports.specs.Judged.{AllFit}
use Rattle.lg_ports.specs.Ranges.{InRange}

valued : (a b : Option (List ℕ)) (usual : List ℕ) → option_or a (option_or b (Some usual)) ≡ None → ⊥
valued (Some x) b usual e = cc
valued None (Some y) usual e = cc
valued None None usual e = cc

within : (low high : ℕ) (o : Option ℕ) → IsSomeAnd o (λ n. (low ≤ n) × (n ≤ high)) → low ≤ option_map_or (λ n. n) o 0
within low high None h = absurd h
within low high (Some n) h = h.0

-- the number of an attribute whose value is there and in its range
number_fits : (given : Given) (low high : ℕ) (o : Option (List ℕ)) → (o ≡ None → ⊥) → ForSome o (InRange given (Number low high)) → low ≤ option_map_or (λ n. n) (option_and_then number_of o) 0
number_fits given low high None there fits = absurd (there refl)
number_fits given low high (Some text) there fits = within low high (number_of text) (fits text refl)

abbrev is_product : Delay → Bool
is_product delay.Product = true
is_product _ = false

-- what goes over the bits of its operands has one bit at least
width_least : (kind : Kind) (attrs : List (List ℕ × List ℕ)) (records : List Record) → is_product (entry kind).delay ≡ true → AllFit (component kind attrs records) → 1 ≤ number (component kind attrs records) (codes "width")
width_least Multiplier attrs records e fit =
    number_fits (component Multiplier attrs records) 1 64 (value_of (component Multiplier attrs records) width_8_attribute (codes "width")) (valued _ _ _) (fit 1 width_8_attribute (omega arith) 0 (omega arith))
width_least Divider attrs records e fit =
    number_fits (component Divider attrs records) 1 64 (value_of (component Divider attrs records) width_8_attribute (codes "width")) (valued _ _ _) (fit 1 width_8_attribute (omega arith) 0 (omega arith))
width_least _ attrs records e fit = absurd (false≢true e)

-- the width is at least 1 where the delay is a product and the attributes are in their ranges
pub product_least : (given : Given) (e : KindEntry) → e ≡ entry given.kind → e.delay ≡ delay.Product → AllFit given → 1 ≤ number given (codes "width")
product_least given e same is fit =
    width_least given.kind given.attrs given.records (ap (λ (f : KindEntry). is_product f.delay) (sym same) ∙ ap is_product is) fit
