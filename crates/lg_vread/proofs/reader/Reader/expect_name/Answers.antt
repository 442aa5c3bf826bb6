use Rattle.std.proofs.Common.{◌≡◌, true, false, Some, sym, ap, ◌∙◌}
use Rattle.std.specs.Str.{bytes_eq}
use Rattle.lg_vread.proofs.Signs.{this_name, other_name}
use Rattle.lg_vread.proofs.reader.Reader.expect_name.Goals as goal

pub returns-then-eq : goal.returns-then-eq
returns-then-eq c =
    let r = c.args.self.now in
    let same : bytes_eq r.token.now c.args.name.now ≡ true = ap (bytes_eq r.token.now) (sym c.as_bytes.ensures.value) ∙ sym c.eq.ensures ∙ c.if-eq.true in
    this_name r c.args.name.now c.requires same ∙ ap Some (sym c.advance.ensures)

pub returns-else-eq : goal.returns-else-eq
returns-else-eq c =
    let r = c.args.self.now in
    let other : bytes_eq r.token.now c.args.name.now ≡ false = ap (bytes_eq r.token.now) (sym c.as_bytes.ensures.value) ∙ sym c.eq.ensures ∙ c.if-eq.false in
    other_name r c.args.name.now other
