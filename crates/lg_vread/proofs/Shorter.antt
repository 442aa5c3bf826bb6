-- What is left after each thing of a list is shorter.
use Rattle.std.proofs.Common.{◌≡◌, ℕ, ◌<◌, List, length, Some, arith}
use Rattle.lg_vtree.specs.declared.module.Port.{Port}
use Rattle.lg_vtree.specs.declared.module.Decl.{Decl}
use Rattle.lg_vtree.specs.declared.module.Fill.{Fill}
use Rattle.lg_vtree.specs.declared.module.Word.{Word}
use Rattle.lg_vtree.specs.declared.module.Assign.{Assign}
use Rattle.lg_vtree.specs.declared.module.Stmt.{Stmt}
use Rattle.lg_vtree.specs.declared.expr.Expr.{Expr}
use Rattle.lg_vtree.specs.Grammar.{Token}
use Rattle.lg_vread.specs.Reading.{other_at, other_port_at, expr_at, decl_at, fill_at, word_at, assign_at, stmt_at}
use Rattle.lg_vread.proofs.Exprs.{expr_reader, other_reader}
use Rattle.lg_vread.proofs.Declarations.{other_port_reader, decl_reader, decl_some, fill_reader, word_reader}
use Rattle.lg_vread.proofs.Modules.{assign_reader, stmt_reader, stmt_some}
use Rattle.lg_vread.proofs.Many.{left_shorter}

pub other_shorter : (n : ℕ) (ts : List Token) (x : Expr) (rest : List Token) → other_at (expr_at n) ts ≡ Some (x, rest) → length rest < length ts
other_shorter n = left_shorter (other_at (expr_at n)) _ _ _ (other_reader (expr_at n) n (expr_reader n)) (λ e. omega arith)

pub other_port_shorter : (ts : List Token) (x : Port) (rest : List Token) → other_port_at ts ≡ Some (x, rest) → length rest < length ts
other_port_shorter = left_shorter other_port_at _ _ _ other_port_reader (λ p. omega arith)

pub decl_shorter : (ts : List Token) (x : Decl) (rest : List Token) → decl_at ts ≡ Some (x, rest) → length rest < length ts
decl_shorter = left_shorter decl_at _ _ _ decl_reader decl_some

pub fill_shorter : (ts : List Token) (x : Fill) (rest : List Token) → fill_at ts ≡ Some (x, rest) → length rest < length ts
fill_shorter = left_shorter fill_at _ _ _ fill_reader (λ f. omega arith)

pub word_shorter : (ts : List Token) (x : Word) (rest : List Token) → word_at ts ≡ Some (x, rest) → length rest < length ts
word_shorter = left_shorter word_at _ _ _ word_reader (λ w. omega arith)

pub assign_shorter : (n : ℕ) (ts : List Token) (x : Assign) (rest : List Token) → assign_at n ts ≡ Some (x, rest) → length rest < length ts
assign_shorter n = left_shorter (assign_at n) _ _ _ (assign_reader n) (λ a. omega arith)

pub stmt_shorter : (n : ℕ) (ts : List Token) (x : Stmt) (rest : List Token) → stmt_at n ts ≡ Some (x, rest) → length rest < length ts
stmt_shorter n = left_shorter (stmt_at n) _ _ _ (stmt_reader n) stmt_some
