-- Things of a sort among names: the ports, and then the declarations.
use Rattle.std.proofs.Common.{◌≡◌, ℕ, Bool, ◌&&◌, ◌||◌, List, map, ap, ◌∙◌}
use Rattle.std.specs.Prelude.{not}
use Rattle.std.specs.List.{list_all}
use Rattle.std.proofs.lemmas.List.Folds.{list_all-append, list_all-map}
use Rattle.lg_vtree.specs.declared.module.Port.{Port}
use Rattle.lg_vtree.specs.declared.module.Decl.{Decl}
use Rattle.lg_vtree.specs.declared.module.Module.{Module}
use Rattle.lg_vrules.specs.declared.names.Sort.{Sort}
use Rattle.lg_vrules.specs.declared.names.Thing.{Thing}
use Rattle.lg_vrules.specs.Things.{port_thing, decl_thing}
use Rattle.lg_vrules.specs.Rules.{has_each}

abbrev pub holds_thing : (Sort → Bool) → (List ℕ → Bool) → List ℕ × Thing → Bool
holds_thing is held t = not (is t.1.sort) || held t.0

abbrev pub all_ports : (Sort → Bool) → (List ℕ → Bool) → Module → Bool
all_ports is held m = list_all (λ (p : Port). holds_thing is held (port_thing p)) m.ports

abbrev pub all_decls : (Sort → Bool) → (List ℕ → Bool) → Module → Bool
all_decls is held m = list_all (λ (d : Decl). holds_thing is held (decl_thing d)) m.decls

pub has_each-parts : (is : Sort → Bool) (held : List ℕ → Bool) (m : Module) → has_each is held m ≡ (all_ports is held m && all_decls is held m)
has_each-parts is held m =
    list_all-append (holds_thing is held) (map port_thing m.ports) (map decl_thing m.decls)
    ∙ (ap (λ (b : Bool). b && list_all (holds_thing is held) (map decl_thing m.decls)) (list_all-map (holds_thing is held) port_thing m.ports)
    ∙ ap (λ (b : Bool). all_ports is held m && b) (list_all-map (holds_thing is held) decl_thing m.decls))
