-- Texts of modules: what is read is a text of the module, and each text of a module is read as it.
use Rattle.std.proofs.Common.{◌≡◌, ℕ, ◌≤◌, max, true, List, map, Some, sym, ap, ◌∙◌, subst, arith}
use Rattle.std.specs.List.{list_all}
use Rattle.std.proofs.lemmas.Option.{same_Some}
use Rattle.lg_vtree.specs.declared.module.Module.{Module}
use Rattle.lg_vtree.specs.Grammar.{token_text, is_token, module_tokens, Spells, IsModuleText}
use Rattle.lg_vtree.specs.Depth.{module_depth}
use Rattle.lg_vread.specs.Lexing.{tokens_of}
use Rattle.lg_vread.specs.Reading.{module_at}
use Rattle.lg_vread.proofs.Safe.{module_safe}
use Rattle.lg_vread.proofs.Lexemes.{tokens_again, tokens_spelled}
use Rattle.lg_vread.proofs.Modules.{module_takes, module_again}

pub text_is_read : (most : ℕ) (bytes : List ℕ) (m : Module) → IsModuleText bytes m → module_depth m ≤ most → module_at most (tokens_of bytes) ≡ Some m
text_is_read most bytes m text deep =
    ap (module_at most) (tokens_again (module_tokens m) bytes text.tree.tokens (module_safe m) text.spelled)
    ∙ module_again most m (record { ports = text.tree.ports; decls = text.tree.decls }) deep

pub is_text : (most : ℕ) (bytes : List ℕ) (m : Module) → module_at most (tokens_of bytes) ≡ Some m → IsModuleText bytes m × (module_depth m ≤ most)
is_text most bytes m e =
    let t = module_takes most (tokens_of bytes) m e in
    let s = tokens_spelled bytes in (
      record {
        tree = record { tokens = subst (λ ts. list_all is_token ts ≡ true) t.spelled s.0; ports = t.ranges.ports; decls = t.ranges.decls };
        spelled = subst (λ ts. Spells (map token_text ts) bytes) t.spelled s.1;
      },
      t.deep,
    )

pub one_module_lem : (bytes : List ℕ) (m n : Module) → IsModuleText bytes m → IsModuleText bytes n → m ≡ n
one_module_lem bytes m n is also =
    let most = max (module_depth m) (module_depth n) in
    same_Some m n (sym (text_is_read most bytes m is (omega arith)) ∙ text_is_read most bytes n also (omega arith))
