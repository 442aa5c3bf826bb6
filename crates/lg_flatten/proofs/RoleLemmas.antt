-- Components with the roles that were found for them have small sizes.
use Rattle.std.proofs.Common.{◌≡◌, ℕ, ◌*◌, ◌≤◌, Bool, true, false, cond, List, [], ◌∷◌, ◌++◌, length, Option, Some, None, refl, subst, arith, ◌⊎◌, inl, inr}
use Rattle.std.specs.Prelude.{◌&&◌, option_map, codes}
use Rattle.std.specs.List.{flat_map, zip}
use Rattle.std.specs.Str.{bytes_eq}
use Rattle.std.proofs.lemmas.List.{length-append}
use Rattle.std.proofs.lemmas.Option.{same_Some, none-some}
use Rattle.lg_circ.specs.declared.project.Point.{Point}
use Rattle.lg_circ.specs.declared.project.Comp.{Comp}
use Rattle.lg_circ.specs.Meaning.{◌>>=◌}
use Rattle.lg_attrs.specs.Pairs.{value_under, has_only}
use Rattle.lg_netlist.specs.declared.netlist.Cell.{Cell}
use Rattle.lg_netlist.specs.declared.netlist.Cell.TheVariants as cell
use Rattle.lg_flatten.specs.declared.role.Role.{Role}
use Rattle.lg_flatten.specs.declared.role.Role.TheVariants.{Pin, Gate}
use Rattle.lg_flatten.specs.Uses.{is_from, pin_role, gate_size, not_sizes, wide_sizes, gate_role, role_of, roles_of, IsSmall, AreFit, AreRoles, role_inputs, port_points}

-- what a choice gives, one of the two gives
chosen : {X : Type 0} (b : Bool) (x y : Option X) (r : X) → cond b x y ≡ Some r → (x ≡ Some r) ⊎ (y ≡ Some r)
chosen true x y r e = inl e
chosen false x y r e = inr e

pin_small : (flag : Option (List ℕ)) (r : Role) → pin_role flag ≡ Some r → IsSmall r
pin_small flag (Pin input) e = tt
pin_small None (Gate cell size) e = absurd (no_pin_is_a_gate true cell size e)
  where
    no_pin_is_a_gate : (input : Bool) (cell : Cell) (size : ℕ) → ◌≡◌ {A = Option Role} (Some (Pin input)) (Some (Gate cell size)) → ⊥
    no_pin_is_a_gate input cell size e = cc
pin_small (Some flag) (Gate cell size) e = cases (chosen (bytes_eq flag (codes "true")) (Some (Pin false)) (cond (bytes_eq flag (codes "false")) (Some (Pin true)) None) (Gate cell size) e)
  where
    no_pin_is_a_gate : (input : Bool) (cell : Cell) (size : ℕ) → ◌≡◌ {A = Option Role} (Some (Pin input)) (Some (Gate cell size)) → ⊥
    no_pin_is_a_gate input cell size e = cc

    others : (Some (Pin true) ≡ Some (Gate cell size)) ⊎ (None ≡ Some (Gate cell size)) → IsSmall (Gate cell size)
    others (inl h) = absurd (no_pin_is_a_gate true cell size h)
    others (inr h) = absurd (none-some (Gate cell size) h)

    cases : (Some (Pin false) ≡ Some (Gate cell size)) ⊎ (cond (bytes_eq flag (codes "false")) (Some (Pin true)) None ≡ Some (Gate cell size)) → IsSmall (Gate cell size)
    cases (inl h) = absurd (no_pin_is_a_gate false cell size h)
    cases (inr h) = others (chosen (bytes_eq flag (codes "false")) (Some (Pin true)) None (Gate cell size) h)

two_small : (a b : Bool) (m k n : ℕ) → m ≤ 70 → k ≤ 70 → cond a (Some m) (cond b (Some k) None) ≡ Some n → n ≤ 70
two_small true b m k n small_m small_k e = let h = same_Some m n e in omega arith
two_small false true m k n small_m small_k e = let h = same_Some k n e in omega arith
two_small false false m k n small_m small_k e = absurd (none-some n e)

three_small : (a b c : Bool) (m k l n : ℕ) → m ≤ 70 → k ≤ 70 → l ≤ 70 → cond a (Some m) (cond b (Some k) (cond c (Some l) None)) ≡ Some n → n ≤ 70
three_small true b c m k l n small_m small_k small_l e = let h = same_Some m n e in omega arith
three_small false b c m k l n small_m small_k small_l e = two_small b c k l n small_k small_l e

not_small : (size : Option (List ℕ)) (n : ℕ) → gate_size 30 not_sizes size ≡ Some n → n ≤ 70
not_small None n e = let h = same_Some 30 n e in omega arith
not_small (Some t) n e = two_small (bytes_eq t (codes "20")) (bytes_eq t (codes "30")) 20 30 n (omega arith) (omega arith) e

wide_small : (size : Option (List ℕ)) (n : ℕ) → gate_size 50 wide_sizes size ≡ Some n → n ≤ 70
wide_small None n e = let h = same_Some 50 n e in omega arith
wide_small (Some t) n e = three_small (bytes_eq t (codes "30")) (bytes_eq t (codes "50")) (bytes_eq t (codes "70")) 30 50 70 n (omega arith) (omega arith) (omega arith) e

-- a gate of a small size is small
sized : (cell : Cell) (o : Option ℕ) (r : Role) → ((n : ℕ) → o ≡ Some n → n ≤ 70) → option_map (Gate cell) o ≡ Some r → IsSmall r
sized cell None r small e = absurd (none-some r e)
sized cell (Some n) r small e = subst IsSmall (same_Some (Gate cell n) r e) (small n refl)

gate_small : (a b c : Bool) (size : Option (List ℕ)) (r : Role)
    → cond a (option_map (Gate cell.Not) (gate_size 30 not_sizes size)) (cond b (option_map (Gate cell.And) (gate_size 50 wide_sizes size)) (cond c (option_map (Gate cell.Or) (gate_size 50 wide_sizes size)) None)) ≡ Some r
    → IsSmall r
gate_small true b c size r e = sized cell.Not (gate_size 30 not_sizes size) r (not_small size) e
gate_small false true c size r e = sized cell.And (gate_size 50 wide_sizes size) r (wide_small size) e
gate_small false false true size r e = sized cell.Or (gate_size 50 wide_sizes size) r (wide_small size) e
gate_small false false false size r e = absurd (none-some r e)

fit : (wiring gates : Bool) (flag size : Option (List ℕ)) (name : List ℕ) (r : Role) → cond wiring (pin_role flag) (cond gates (gate_role name size) None) ≡ Some r → IsSmall r
fit true gates flag size name r e = pin_small flag r e
fit false true flag size name r e = gate_small (bytes_eq name (codes "NOT Gate")) (bytes_eq name (codes "AND Gate")) (bytes_eq name (codes "OR Gate")) size r e
fit false false flag size name r e = absurd (none-some r e)

-- a component that is something is small
role_fits : (libs : List (List ℕ × List ℕ)) (c : Comp) (r : Role) → role_of libs c ≡ Some r → IsSmall r
role_fits libs c r e =
    fit (is_from (codes "#Wiring") libs c && bytes_eq c.name (codes "Pin") && has_only (codes "label" ∷ codes "output" ∷ []) c.attrs.list)
    (is_from (codes "#Gates") libs c && has_only (codes "size" ∷ []) c.attrs.list)
    (value_under (codes "output") c.attrs.list) (value_under (codes "size") c.attrs.list) c.name r e

first_fits : (c : Comp) (comps : List Comp) (roles : List Role) (o : Option Role) (others : Option (List Role)) → ((r : Role) → o ≡ Some r → IsSmall r)
    → ((rs : List Role) → others ≡ Some rs → AreFit comps rs) → (o >>= λ r. others >>= λ rs. Some (r ∷ rs)) ≡ Some roles → AreFit (c ∷ comps) roles
first_fits c comps roles None others first rest e = absurd (none-some roles e)
first_fits c comps roles (Some r) None first rest e = absurd (none-some roles e)
first_fits c comps roles (Some r) (Some rs) first rest e = subst (AreFit (c ∷ comps)) (same_Some (r ∷ rs) roles e) (first r refl, rest rs refl)

fit_from_roles_of : (libs : List (List ℕ × List ℕ)) (comps : List Comp) (roles : List Role) → roles_of libs comps ≡ Some roles → AreFit comps roles
fit_from_roles_of libs [] roles e = subst (AreFit []) (same_Some [] roles e) tt
fit_from_roles_of libs (c ∷ comps) roles e = first_fits c comps roles (role_of libs c) (roles_of libs comps) (role_fits libs c) (fit_from_roles_of libs comps) e

-- roles that were found fit their components
pub AreFit-from_roles : (comps : List Comp) (roles : List Role) → AreRoles comps roles → AreFit comps roles
AreFit-from_roles comps roles known = fit_from_roles_of known.0 comps roles known.1

few_ports : (p : Point) (r : Role) → length (role_inputs p r ++ p ∷ []) ≤ 3
few_ports p (Pin input) = omega arith
few_ports p (Gate cell.Not size) = omega arith
few_ports p (Gate cell.And size) = omega arith
few_ports p (Gate cell.Or size) = omega arith

-- a component has at most three ports
pub length-ports : (comps : List Comp) (roles : List Role) → length (flat_map port_points (zip comps roles)) ≤ 3 * length comps
length-ports [] roles = omega arith
length-ports (c ∷ comps) [] = omega arith
length-ports (c ∷ comps) (r ∷ roles) =
    let more = length-ports comps roles in
    let own = few_ports c.loc r in
    omega (arith, length-append (role_inputs c.loc r ++ c.loc ∷ []) (flat_map port_points (zip comps roles)))
