use Rattle.std.proofs.Common.{◌≡◌, Bool, true, false, ◌&&◌, sym, ap, ◌∙◌}
use Rattle.std.specs.List.{list_all}
use Rattle.lg_vtree.specs.declared.module.Port.{Port}
use Rattle.lg_vtree.specs.declared.module.Decl.{Decl}
use Rattle.lg_vrules.specs.Things.{port_thing, decl_thing}
use Rattle.lg_vnames.specs.Sets.{holds}
use Rattle.lg_vrules.specs.Known.{is_target}
use Rattle.lg_vrules.proofs.OnceLemmas.{holds_thing, all_ports, all_decls, has_each-parts}
use Rattle.lg_vrules.proofs.once.has_each.Goals as goal

pub returns-then-has_ports : goal.returns-then-has_ports
returns-then-has_ports c =
    let m = c.args.«module».now in
    let is = is_target c.args.target in
    let held = holds c.args.set.now in
    let ports : all_ports is held m ≡ true = ap (list_all (λ (p : Port). holds_thing is held (port_thing p))) (sym c.as_slice.ensures) ∙ (sym c.has_ports.ensures ∙ c.if-has_ports.true) in
    c.has_decls.ensures ∙ (ap (list_all (λ (d : Decl). holds_thing is held (decl_thing d))) c.as_slice-then-has_ports.ensures ∙ ap (λ (b : Bool). b && all_decls is held m) (sym ports) ∙ sym (has_each-parts is held m))

pub returns-else-has_ports : goal.returns-else-has_ports
returns-else-has_ports c =
    let m = c.args.«module».now in
    let is = is_target c.args.target in
    let held = holds c.args.set.now in
    let ports : all_ports is held m ≡ false = ap (list_all (λ (p : Port). holds_thing is held (port_thing p))) (sym c.as_slice.ensures) ∙ (sym c.has_ports.ensures ∙ c.if-has_ports.false) in
    c.if-has_ports.false ∙ (ap (λ (b : Bool). b && all_decls is held m) (sym ports) ∙ sym (has_each-parts is held m))
