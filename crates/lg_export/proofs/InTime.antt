-- An accepted netlist settles on its static values, so in time too on the outputs of its module.
use Rattle.std.proofs.Common.{◌≡◌, true, List, [], ◌∷◌, map}
use Rattle.std.specs.List.{AllByRecursion}
use Rattle.lg_value.specs.Word.{IsDefined}
use Rattle.lg_timing.specs.Session.{Line}
use Rattle.lg_netlist.specs.declared.netlist.Netlist.{Netlist}
use Rattle.lg_netlist.specs.Acceptance.{IsAccepted}
use Rattle.lg_netlist.specs.Static.{has_no_clock}
use Rattle.lg_sim.proofs.LongestChain.{has_longest, one_longest}
use Rattle.lg_sim.proofs.SettlesOnRows.{settles_on_rows}
use Rattle.lg_export.specs.InTime.{AgreesInTime}
use Rattle.lg_export.specs.Layout.{module_of}
use Rattle.lg_export.proofs.Agreeing.{from_start}

lines_defined : (lines : List Line) → AllByRecursion (AllByRecursion IsDefined) (map (λ (line : Line). line.outputs) lines) → AllByRecursion (λ (line : Line). AllByRecursion IsDefined line.outputs) lines
lines_defined [] defined = tt
lines_defined (line ∷ lines) defined = (defined.0, lines_defined lines defined.1)

pub agrees_in_time : (n : Netlist) → has_no_clock n ≡ true → IsAccepted n → AgreesInTime n (module_of n)
agrees_in_time n clockless accepted =
    let slowest = has_longest n accepted in
    record {
      longest = slowest.0;
      is_longest = slowest.1;
      only = λ other is. one_longest n slowest.0 other slowest.1 is;
      on_rows = λ limit enough rows defined.
          let settled = settles_on_rows n slowest.0 limit rows clockless accepted slowest.1 enough defined in
          let follows = from_start n clockless accepted rows (map (λ (line : Line). line.outputs) settled.0.lines) defined settled.1.static in
          record { table = settled.0; settles = settled.1; defined = lines_defined settled.0.lines follows.0; same = follows.1 };
    }
