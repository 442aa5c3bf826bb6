use Rattle.std.proofs.Common.{arith, ◌≤◌}
use Rattle.std.specs.Prelude.{codes}
use Rattle.lg_kinds.specs.Rows.{seen_entry}
use Rattle.lg_ports.specs.Given.{seen_given, number}
use Rattle.lg_ports.proofs.DelayLemmas.{product_least}
use Rattle.lg_ports.proofs.delays.usual_delay.Goals as goal

pub returns-in-Product-clause-some : goal.returns-in-Product-clause-some
returns-in-Product-clause-some c fit =
    let wide : 1 ≤ number (seen_given c.args.given.now) (codes "width") = product_least (seen_given c.args.given.now) (seen_entry c.entry.result.now) c.entry.ensures c.in-Product.is fit in
    c.product.ensures.some (omega (arith, wide, c.number-in-Product.ensures.number))
