use Rattle.std.proofs.Common.{◌≡◌, true, sym, ◌∙◌}
use Rattle.std.proofs.lemmas.Bool.{cond-true}
use Rattle.lg_vread.specs.Lexing.{left}
use Rattle.lg_vread.specs.Reading.{is_at, tail}
use Rattle.lg_vread.proofs.Taking.{tail_is}
use Rattle.lg_vread.proofs.reader.Reader.take.Goals as goal

pub returns-then-found-clause-rest : goal.returns-then-found-clause-rest
returns-then-found-clause-rest c =
    let here : is_at c.args.text.now (left c.args.self.now) ≡ true = sym c.is_at-found.ensures ∙ c.if-found.true in
    c.advance.ensures ∙ sym (tail_is c.args.text.now c.args.self.now here) ∙ sym (cond-true c.is_at-found.result (tail (left c.args.self.now)) (left c.args.self.now) c.if-found.true)
