use Rattle.std.proofs.Common.{◌≡◌, List, length, map, take, sym, ap, ◌∙◌, arith}
use Rattle.std.proofs.SliceLists.{take_long}
use Rattle.lg_vtree.specs.declared.module.Decl.{Decl}
use Rattle.lg_vrules.specs.Things.{decl_thing}
use Rattle.lg_vmeaning.specs.Ports.{is_kept_as}
use Rattle.lg_vmeaning.proofs.NameLemmas.{names_in}
use Rattle.lg_vmeaning.proofs.SortLemmas.{kept_lines, first_of_line}
use Rattle.lg_vmeaning.proofs.kept_names.kept_names.Goals as goal

pub returns : goal.returns
returns c =
    let m = c.args.«module».now in
    let all : take c.loop-decl.decl-index m.decls ≡ m.decls = take_long m.decls c.loop-decl.decl-index (omega (arith, ap length c.as_slice-decl-items.ensures, c.loop-decl-test.false)) in
    c.loop-decl.invariant
    ∙ (ap (λ (some : List Decl). names_in (is_kept_as c.args.storage) (map decl_thing some)) all
    ∙ ap (map first_of_line) (sym (kept_lines c.args.storage m)))
