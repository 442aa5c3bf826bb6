-- The timeline of a NOT gate, by computing and by the law of settling.
use Rattle.std.proofs.Common.{◌≡◌, ℕ, zero, suc, ◌+◌, ◌-◌, ◌<◌, ◌≤◌, true, false, [], ◌∷◌, inr, sym, refl, ap, ◌∙◌, subst, arith}
use Rattle.std.specs.Prelude.{All}
use Rattle.std.proofs.lemmas.List.Elements.{All-nil, All-cons}
use Rattle.lg_value.specs.declared.bit.Bit.TheVariants.{Zero, One, Unknown}
use Rattle.lg_timing.specs.Circuit.{Stimulus}
use Rattle.lg_value.specs.Drivers.{join_of_drivers}
use Rattle.lg_timing.specs.Instant.{Instant, timeline, instant_at, in_force}
use Rattle.lg_timing.specs.Settling.{is_busy, busy_count, SettlesAt, SettlesWithin, IsSteady, StayFrom}
use Rattle.lg_timing.specs.Session.{set_at, IsTable}
use Rattle.lg_timing.specs.Samples.{one_word, not_gate}
use Rattle.lg_timing.specs.NotGate.{port_on, not_circuit, row_0, both_rows, Shows, not_table}
use Rattle.lg_timing.proofs.Stretch.{quiet_after_stretch}
use Rattle.lg_timing.proofs.Timeline.{in_force-stays}
use Rattle.lg_timing.proofs.Outputs.{SameOutputs-from_quiet}
use Rattle.lg_timing.proofs.Instants.{instant_again}
use Rattle.lg_timing.proofs.Evaluated.{none-settled}

not_steady : All (IsSteady 1) not_circuit.parts
not_steady =
    All-cons (IsSteady 1) (not_gate (port_on 0) (port_on 1)) []
    (record { least_delay = omega arith; greatest_delay = omega arith; second_step = λ state before now. refl }) (All-nil (IsSteady 1))

stay_0 : StayFrom row_0 0
stay_0 = All-cons (λ (s : Stimulus). s.from ≤ 0) (set_at 0 (one_word Zero)) [] (omega arith) (All-nil (λ (s : Stimulus). s.from ≤ 0))

stay_2 : StayFrom both_rows 2
stay_2 =
    All-cons (λ (s : Stimulus). s.from ≤ 2) (set_at 0 (one_word Zero)) (set_at 2 (one_word One) ∷ []) (omega arith)
    (All-cons (λ (s : Stimulus). s.from ≤ 2) (set_at 2 (one_word One)) [] (omega arith) (All-nil (λ (s : Stimulus). s.from ≤ 2)))

quiet_2 : is_busy not_circuit row_0 2 ≡ false
unfolding timeline join_of_drivers
quiet_2 = refl

quiet_4 : is_busy not_circuit both_rows 4 ≡ false
unfolding timeline join_of_drivers
quiet_4 = refl

pub settles_0 : SettlesAt not_circuit row_0 0 1
unfolding timeline join_of_drivers
settles_0 = record {
  not_before = omega arith;
  last_busy = inr refl;
  quiet = quiet_after_stretch 1 not_circuit row_0 0 1 not_steady stay_0 (omega arith) (λ u after within.
      let is : 2 ≡ u = omega (arith, after, within) in subst (λ v. is_busy not_circuit row_0 v ≡ false) is quiet_2);
}

pub settles_2 : SettlesAt not_circuit both_rows 2 3
unfolding timeline join_of_drivers
settles_2 = record {
  not_before = omega arith;
  last_busy = inr refl;
  quiet = quiet_after_stretch 1 not_circuit both_rows 2 3 not_steady stay_2 (omega arith) (λ u after within.
      let is : 4 ≡ u = omega (arith, after, within) in subst (λ v. is_busy not_circuit both_rows v ≡ false) is quiet_4);
}

pub shows_0 : Shows 0 Zero Unknown false 1
unfolding timeline join_of_drivers
shows_0 = record { on_a = refl; on_y = refl; is_busy = refl; evaluations = refl }

pub shows_1 : Shows 1 Zero One true 0
unfolding timeline join_of_drivers
shows_1 = record { on_a = refl; on_y = refl; is_busy = refl; evaluations = refl }

pub shows_2 : Shows 2 One One false 1
unfolding timeline join_of_drivers
shows_2 = record { on_a = refl; on_y = refl; is_busy = refl; evaluations = refl }

pub shows_3 : Shows 3 One Zero true 0
unfolding timeline join_of_drivers
shows_3 = record { on_a = refl; on_y = refl; is_busy = refl; evaluations = refl }

-- instant 3 goes on
instant_kept : (n : ℕ) → instant_at not_circuit both_rows (3 + n) ≡ instant_at not_circuit both_rows 3
instant_kept zero = refl
instant_kept (suc n) =
    let same : 3 + suc n ≡ suc (3 + n) = omega arith in
    let stays : in_force both_rows (suc (3 + n)) ≡ in_force both_rows (3 + n) =
    in_force-stays both_rows 2 (suc (3 + n)) stay_2 (omega arith) ∙ sym (in_force-stays both_rows 2 (3 + n) stay_2 (omega arith)) in
    ap (instant_at not_circuit both_rows) same
    ∙ instant_again 1 not_circuit both_rows (3 + n) not_steady stays (SameOutputs-from_quiet not_circuit both_rows (3 + n) (settles_2.quiet (suc (3 + n)) (omega arith)))
    ∙ instant_kept n

pub shows_later : (t : ℕ) → 3 < t → Shows t One Zero false 0
shows_later t later =
    let same : t ≡ 3 + (t - 3) = omega (arith, later) in
    let instant = ap (instant_at not_circuit both_rows) same ∙ instant_kept (t - 3) in
    record {
      on_a = ap (λ (i : Instant). i.nets 0) instant ∙ shows_3.on_a;
      on_y = ap (λ (i : Instant). i.nets 1) instant ∙ shows_3.on_y;
      is_busy = settles_2.quiet t later;
      evaluations = none-settled not_circuit both_rows 2 3 t stay_2 settles_2 later;
    }

within_0 : (limit : ℕ) → 1 ≤ limit → SettlesWithin not_circuit row_0 0 limit 1
unfolding timeline join_of_drivers busy_count
within_0 limit least = record { settles = settles_0; few_busy = least }

within_2 : (limit : ℕ) → 1 ≤ limit → SettlesWithin not_circuit both_rows 2 limit 3
unfolding timeline join_of_drivers busy_count
within_2 limit least = record { settles = settles_2; few_busy = least }

-- its session table
pub not_gate_table : (limit : ℕ) → 1 ≤ limit → IsTable not_circuit limit (one_word Zero ∷ one_word One ∷ []) not_table
unfolding timeline join_of_drivers
not_gate_table limit least = (
  row_0,
  1,
  record { settled = 1; settles = record { settles = within_0 limit least; outputs = refl; settle = refl }; ticks = (refl, refl, refl) },
  (
    both_rows,
    3,
    record { settled = 3; settles = record { settles = within_2 limit least; outputs = refl; settle = refl }; ticks = (refl, refl, refl) },
    tt,
  ),
)
