-- What is found under a name while a module is made ready to run. No contract of the crate's surface speaks of this.
use Rattle.std.specs.Prelude.{ℕ, List, Option, option_and_then, slice_get}
use Rattle.lg_vtree.specs.declared.expr.Expr.{Expr}
use Rattle.lg_vtree.specs.declared.module.Stmt.{Stmt}
use Rattle.lg_vrules.specs.Known.{width_under}
use Rattle.lg_vrules.specs.Indexes.{index_under}
use Rattle.lg_vresolve.specs.Resolved.{resolved}
use Rattle.lg_vresolve.specs.declared.resolve.Resolver.{Resolver}
use Rattle.lg_vmachine.specs.declared.term.Term.{Term}
use Rattle.lg_vmeaning.specs.declared.stores.Stores.{Stores}

-- the term of an expression, by what its names stand for
abbrev pub term_by : Resolver → Expr → Term
term_by r e = (resolved (width_under r.names.now) (index_under r.numbers.now) (index_under r.memories.now) e).term

-- the statement that stores into what has this name
abbrev pub stmt_under : Stores → List ℕ → Option Stmt
stmt_under s name = option_and_then (slice_get s.stmts.now) (index_under s.indexes.now name)
