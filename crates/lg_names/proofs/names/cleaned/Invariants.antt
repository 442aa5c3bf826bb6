use Rattle.std.proofs.Common.{◌≡◌, ◌++◌, drop}
use Rattle.std.specs.List.{flat_map}
use Rattle.std.specs.Str.{IsAscii}
use Rattle.lg_names.specs.Names.{cleaned_byte}
use Rattle.lg_names.proofs.names.cleaned.Given as goal

-- what is cleaned and what is left are all
abbrev pub invariant-loop-byte : goal.invariant-loop-byte
invariant-loop-byte l = record {
  value : l.name.items ++ flat_map cleaned_byte (drop l.byte-index l.label) ≡ flat_map cleaned_byte l.label;
  ascii : IsAscii l.name.items;
}
