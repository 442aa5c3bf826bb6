use Rattle.std.proofs.Common.{rules, ◌<◌, ◌≡◌, length, Some, IfSome, arith}
use Rattle.std.proofs.lemmas.Grind.{common_steps}
use Rattle.lg_io.proofs.HostLemmas.{whole_below-limit}
use Rattle.lg_io.proofs.host_files.read_source.Goals as goal

pub returns-clause-answer : goal.returns-clause-answer
returns-clause-answer g c =
    let below : length c.read_to_end.new.buf.items < c.saturating_add-limit.result = omega (arith, c.read_to_end.new.buf.small, c.read_to_end.new.buf.ok.0) in
    let whole : IfSome (g.S.Read.remaining c.args.source) (λ content. Some content ≡ Some c.read_to_end.new.buf.items) =
    whole_below-limit _ _ c.saturating_add-limit.result (grind (arith, common_steps)) below in
    search rules
