use Rattle.std.proofs.Common.{ℕ, List, length, Some, sym, ap, ◌∙◌, subst}
use Rattle.std.specs.Prelude.{◌==◌, option_copied}
use Rattle.lg_timing.specs.Session.{set_at, rise_at}
use Rattle.lg_instants.specs.Plain.{circuit_of}
use Rattle.lg_instants.specs.Rows.{EndsIn}
use Rattle.lg_instants.proofs.Endings.{has-clock, leaves-ticked}
use Rattle.lg_instants.proofs.table.row_of.Goals as goal

pub returns-in-Oscillates-2 : goal.returns-in-Oscillates-2
returns-in-Oscillates-2 g c =
    let circuit = circuit_of g.P.Behaviour.meaning c.args.circuit.now in
    let stood = option_copied c.args.stood in
    let words = c.args.words.now in
    let settles = subst (EndsIn circuit c.args.limit stood (set_at 0 words)) c.in-Settled.is c.in_ok-put.ensures in (
      has-clock c.args.circuit.now.clocks (ap (λ (l : List ℕ). length l == 0) (sym c.nets.ensures) ∙ sym c.is_empty.ensures ∙ c.if-is_empty.false),
      record {
        took = c.in-Settled.took;
        settled = c.in-Settled.at;
        settles = settles.0;
        oscillates = subst (EndsIn circuit c.args.limit (Some c.in-Settled.at) (rise_at 0 words)) c.in-Oscillates-2.is c.in_ok-put-2.ensures;
      },
    )

pub returns-in-Oscillates-3 : goal.returns-in-Oscillates-3
returns-in-Oscillates-3 g c =
    let circuit = circuit_of g.P.Behaviour.meaning c.args.circuit.now in
    let stood = option_copied c.args.stood in
    let words = c.args.words.now in
    let settles = subst (EndsIn circuit c.args.limit stood (set_at 0 words)) c.in-Settled.is c.in_ok-put.ensures in
    let rises = subst (EndsIn circuit c.args.limit (Some c.in-Settled.at) (rise_at 0 words)) c.in-Settled-2.is c.in_ok-put-2.ensures in (
      has-clock c.args.circuit.now.clocks (ap (λ (l : List ℕ). length l == 0) (sym c.nets.ensures) ∙ sym c.is_empty.ensures ∙ c.if-is_empty.false),
      record {
        took = c.in-Settled.took;
        settled = c.in-Settled.at;
        settles = settles.0;
        rise = c.in-Settled-2.took;
        risen = c.in-Settled-2.at;
        rises = rises.0;
        oscillates = subst (EndsIn circuit c.args.limit (Some c.in-Settled-2.at) (set_at 0 words)) c.in-Oscillates-3.is c.in_ok-put-3.ensures;
      },
    )

pub returns : goal.returns
returns g c =
    let circuit = circuit_of g.P.Behaviour.meaning c.args.circuit.now in
    let stood = option_copied c.args.stood in
    let words = c.args.words.now in
    let settles = subst (EndsIn circuit c.args.limit stood (set_at 0 words)) c.in-Settled.is c.in_ok-put.ensures in
    let rises = subst (EndsIn circuit c.args.limit (Some c.in-Settled.at) (rise_at 0 words)) c.in-Settled-2.is c.in_ok-put-2.ensures in
    let falls = subst (EndsIn circuit c.args.limit (Some c.in-Settled-2.at) (set_at 0 words)) c.in-Settled-3.is c.in_ok-put-3.ensures in (
      leaves-ticked circuit c.args.limit stood words c.new-2.result c.in_ok-outputs.outputs c.in-Settled.took c.in-Settled-2.took c.in-Settled-3.took c.in-Settled.at c.in-Settled-2.at c.in-Settled-3.at
          (has-clock c.args.circuit.now.clocks (ap (λ (l : List ℕ). length l == 0) (sym c.nets.ensures) ∙ sym c.is_empty.ensures ∙ c.if-is_empty.false)) c.new-2.ensures c.in_ok-outputs.ensures settles.0 rises.0 falls.0,
      falls.1,
    )
