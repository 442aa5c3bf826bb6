use Rattle.std.proofs.Common.{◌≡◌}
use Rattle.std.proofs.lemmas.Result.{IfOk-weaker}
use Rattle.lg_vrules.specs.Known.{width_under}
use Rattle.lg_vrules.specs.Indexes.{index_under}
use Rattle.lg_vresolve.specs.Resolved.{resolved, IsTermOf}
use Rattle.lg_vresolve.proofs.ResolvedLemmas.{is_term}
use Rattle.lg_vresolve.proofs.resolve.Resolver.resolve.Goals as goal

pub returns-clause-number : goal.returns-clause-number
returns-clause-number c =
    let names = c.args.self.now.names.now in
    let index = index_under c.args.self.now.numbers.now in
    let memory = index_under c.args.self.now.memories.now in
    IfOk-weaker c.turn.result (λ r. r ≡ resolved (width_under names) index memory c.args.expr.now) (IsTermOf names index memory c.args.expr.now)
    (λ r is. is_term names index memory c.args.expr.now r is) c.turn.ensures
