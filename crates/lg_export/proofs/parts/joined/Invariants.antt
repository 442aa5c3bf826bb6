use Rattle.std.proofs.Common.{◌≡◌, fold}
use Rattle.lg_vtree.specs.declared.expr.Expr.TheVariants.{Binary}
use Rattle.lg_export.specs.Layout.{first_of}
use Rattle.lg_export.proofs.parts.joined.Given as goal

-- the first input and those so far are joined
abbrev pub invariant-loop-input : goal.invariant-loop-input
invariant-loop-input l = l.value ≡ fold (λ a b. Binary a l.operator b) (first_of l.fn.inputs.items) l.yielded
