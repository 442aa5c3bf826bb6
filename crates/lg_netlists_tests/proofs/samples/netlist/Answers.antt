-- What the parts of a netlist keep is what it keeps.
use Rattle.lg_netlists_tests.proofs.samples.netlist.Goals as goal

pub invariant_of-result : goal.invariant_of-result
invariant_of-result g c =
    record {
      valid = record {
        few_parts = c.in_ok-gates_of.ensures.few;
        few_pins = c.in_ok-pins_on.ensures.few;
        few_clocks = c.in_ok-clocks_on.ensures.few;
        parts_fit = c.in_ok-gates_of.ensures.fit;
        pins_fit = c.in_ok-pins_on.ensures.fit;
        clocks_fit = c.in_ok-clocks_on.ensures.fit;
        names_differ = c.in_ok-pins_on.ensures.differ;
        clock_pin_is_input = tt;
      };
    }
