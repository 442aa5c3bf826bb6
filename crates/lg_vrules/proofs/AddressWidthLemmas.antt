-- Widths of addresses, and addresses inside expressions.
use Rattle.std.proofs.Common.{◌≡◌, ℕ, zero, suc, ◌+◌, ◌-◌, ◌^◌, ◌≤◌, Bool, true, false, eqb, ◌&&◌, List, map, Option, refl, sym, ap, ◌∙◌, arith, rules, pow_pos}
use Rattle.std.specs.List.{list_all}
use Rattle.lg_vtree.specs.declared.expr.Expr.{Expr}
use Rattle.lg_vtree.specs.declared.expr.Expr.TheOpen.{Expr-F}
use Rattle.lg_vtree.specs.declared.expr.Expr.TheVariants.{rolls-Item, rolls-Join}
use Rattle.lg_vtree.specs.declared.expr.Expr.TheVariants as expr
use Rattle.lg_vrules.specs.declared.names.Sort.{Sort}
use Rattle.lg_vrules.specs.Rules.{width_from, address_fits, addresses, all_address}
use Rattle.lg_vrules.proofs.InsideLemmas.{inside-roll}

-- one width that it is not
pub not_this : (left width last : ℕ) → 1 ≤ left → (last ≡ 2 ^ width - 1 → ⊥) → width_from left width (last + 1) ≡ width_from (left - 1) (width + 1) (last + 1)
not_this zero width last some apart = absurd (omega (arith, some))
not_this (suc n) width last some differs =
    let apart : eqb (last + 1) (2 ^ width) ≡ false = other (eqb (last + 1) (2 ^ width)) refl in
    let less : suc n - 1 ≡ n = omega arith in
    rw (apart, less) refl
  where
    other : (b : Bool) → eqb (last + 1) (2 ^ width) ≡ b → b ≡ false
    other true e = absurd (let same : last + 1 ≡ 2 ^ width = search rules in differs (omega (arith, same, pow_pos width)))
    other false e = refl

module _ (sort : List ℕ → Option Sort) (width : List ℕ → ℕ) where
  abbrev fits : Expr → Bool
  fits e = all_address sort width e

  pub address-Item : (name : List ℕ) (e : Expr) → fits (expr.Item name e) ≡ (addresses sort width name e && fits e)
  address-Item name e = ap fits (sym (rolls-Item name e)) ∙ inside-roll (address_fits sort width) (Expr-F.Item name e)

  pub address-Join : (a b : Expr) (more : List Expr) → fits (expr.Join a b more) ≡ (list_all (λ fit. fit) (map fits more) && (fits a && fits b))
  address-Join a b more = ap fits (sym (rolls-Join a b more)) ∙ inside-roll (address_fits sort width) (Expr-F.Join a b more)
