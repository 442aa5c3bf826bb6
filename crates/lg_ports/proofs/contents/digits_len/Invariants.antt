use Rattle.std.proofs.Common.{◌≡◌, ◌+◌, drop}
use Rattle.std.specs.List.{prefix_len}
use Rattle.lg_ports.specs.Contents.{is_decimal}
use Rattle.lg_ports.proofs.contents.digits_len.Given as goal

abbrev pub invariant-loop-place : goal.invariant-loop-place
invariant-loop-place l = prefix_len is_decimal l.text ≡ l.place + prefix_len is_decimal (drop l.place l.text)
