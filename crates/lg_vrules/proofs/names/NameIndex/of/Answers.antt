use Rattle.std.proofs.Common.{◌≡◌, ◌<◌, ◌+◌, ℕ, true, false, List, [], ◌∷◌, ◌++◌, map, take, drop, length, get_or, take-append-drop, append-nil, arith, sym, ap, subst, ◌∙◌, append_assoc}
use Rattle.std.proofs.lemmas.List.{map_more, map-append}
use Rattle.std.proofs.SliceLists.{take_long}
use Rattle.lg_vtree.specs.declared.module.Port.{Port}
use Rattle.lg_vtree.specs.declared.module.Decl.{Decl}
use Rattle.lg_vrules.specs.declared.names.Thing.{Thing}
use Rattle.lg_vrules.specs.Rules.{all_differ}
use Rattle.lg_vrules.specs.Known.{KnowsThings, Adds}
use Rattle.lg_vrules.specs.Things.{port_thing, decl_thing, things}
use Rattle.lg_vrules.proofs.NameLemmas.{KnowsThings-more, KnowsThings-clash, KnowsThings-none, things_front}
use Rattle.lg_vrules.proofs.names.NameIndex.of.Goals as goal

abbrev first_names : List (List ℕ × Thing) → List (List ℕ)
first_names some = map (λ (t : List ℕ × Thing). t.0) some

-- the things of some items so far, and of one item more
one_more : {A : Type 0} (f : A → List ℕ × Thing) (before : List (List ℕ × Thing)) (items : List A) (i : ℕ) (a : A) (t : List ℕ × Thing) → i < length items → a ≡ get_or items i a → t ≡ f a
    → before ++ map f (take (i + 1) items) ≡ (before ++ map f (take i items)) ++ t ∷ []
one_more f before items i a t lt is e =
    ap (λ more. before ++ more) (map_more f items i a lt ∙ ap (λ b. map f (take i items) ++ b ∷ []) (ap f (sym is) ∙ sym e))
    ∙ sym (append_assoc before (map f (take i items)) (t ∷ []))

-- the things of some items so far are those of a module's beginning
front : {A : Type 0} (f : A → List ℕ × Thing) (before behind : List (List ℕ × Thing)) (items : List A) (i : ℕ)
    → all_differ (first_names (before ++ map f (take i items))) ≡ false → all_differ (first_names ((before ++ map f items) ++ behind)) ≡ false
front f before behind items i e =
    let split : (before ++ map f (take i items)) ++ map f (drop i items) ≡ before ++ map f items =
    append_assoc before (map f (take i items)) (map f (drop i items)) ∙ ap (λ more. before ++ more) (sym (map-append f (take i items) (drop i items)) ∙ ap (map f) (take-append-drop i items)) in
    things_front (before ++ map f items) behind (subst (λ (some : List (List ℕ × Thing)). all_differ (first_names some) ≡ false) split (things_front (before ++ map f (take i items)) (map f (drop i items)) e))

pub loop-port-init : goal.loop-port-init
loop-port-init c = KnowsThings-none (record { things = c.new.result }) c.new.ensures.empty

pub returns-then-not-branch : goal.returns-then-not-branch
returns-then-not-branch c =
    let m = c.args.«module».now in
    let i = c.loop-port.port-index in
    let port = c.port-item.result in
    let thing = c.thing_of_port.result in
    let some = map port_thing (take i m.ports) in
    let adds : Adds c.loop-port.names c.add.new.self port.name thing false = subst (Adds c.loop-port.names c.add.new.self port.name thing) c.if-not-branch.true c.in_ok-add.ensures in
    let twice = KnowsThings-clash some c.loop-port.names c.add.new.self port.name thing c.loop-port.invariant adds in
    let more = one_more port_thing [] m.ports i port (port.name, thing) (subst (λ (ps : List Port). i < length ps) c.as_slice-port-items.ensures c.loop-port-test.true) (c.port-item.is ∙ ap (λ (ps : List Port). get_or ps i port) c.as_slice-port-items.ensures) c.thing_of_port.ensures in
    front port_thing [] (map decl_thing m.decls) m.ports (i + 1) (ap (λ (some : List (List ℕ × Thing)). all_differ (first_names some)) more ∙ twice)

pub loop-port-preserved : goal.loop-port-preserved
loop-port-preserved c =
    let ports = c.args.«module».now.ports in
    let i = c.loop-port.port-index in
    let port = c.port-item.result in
    let thing = c.thing_of_port.result in
    let adds : Adds c.loop-port.names c.add.new.self port.name thing true = subst (Adds c.loop-port.names c.add.new.self port.name thing) c.if-not-branch.false c.in_ok-add.ensures in
    let more = one_more port_thing [] ports i port (port.name, thing) (subst (λ (ps : List Port). i < length ps) c.as_slice-port-items.ensures c.loop-port-test.true) (c.port-item.is ∙ ap (λ (ps : List Port). get_or ps i port) c.as_slice-port-items.ensures) c.thing_of_port.ensures in
    subst (λ (some : List (List ℕ × Thing)). KnowsThings some c.add.new.self) (sym more) (KnowsThings-more (map port_thing (take i ports)) c.loop-port.names c.add.new.self port.name thing c.loop-port.invariant adds)

pub loop-decl-init : goal.loop-decl-init
loop-decl-init c =
    let ports = c.args.«module».now.ports in
    let all : take c.loop-port.port-index ports ≡ ports = take_long ports c.loop-port.port-index (omega (arith, ap length c.as_slice-port-items.ensures, c.loop-port-test.false)) in
    rw append-nil (subst (λ (some : List Port). KnowsThings (map port_thing some) c.loop-port.names) all c.loop-port.invariant)

pub returns-then-not-branch-2 : goal.returns-then-not-branch-2
returns-then-not-branch-2 c =
    let m = c.args.«module».now in
    let i = c.loop-decl.decl-index in
    let named : List ℕ × Thing = (c.thing_of_decl.result.0.now, c.thing_of_decl.result.1) in
    let before = map port_thing m.ports in
    let new = c.add-in-loop-decl.new.self in
    let adds : Adds c.loop-decl.names new named.0 named.1 false = subst (Adds c.loop-decl.names new named.0 named.1) c.if-not-branch-2.true c.in_ok-add-2.ensures in
    let twice = KnowsThings-clash (before ++ map decl_thing (take i m.decls)) c.loop-decl.names new named.0 named.1 c.loop-decl.invariant adds in
    let more = one_more decl_thing before m.decls i c.decl-item.result named (subst (λ (ds : List Decl). i < length ds) c.as_slice-decl-items.ensures c.loop-decl-test.true) (c.decl-item.is ∙ ap (λ (ds : List Decl). get_or ds i c.decl-item.result) c.as_slice-decl-items.ensures) c.thing_of_decl.ensures in
    let whole = front decl_thing before [] m.decls (i + 1) (ap (λ (some : List (List ℕ × Thing)). all_differ (first_names some)) more ∙ twice) in
    subst (λ (some : List (List ℕ × Thing)). all_differ (first_names some) ≡ false) (append-nil (things m)) whole

pub loop-decl-preserved : goal.loop-decl-preserved
loop-decl-preserved c =
    let m = c.args.«module».now in
    let i = c.loop-decl.decl-index in
    let named : List ℕ × Thing = (c.thing_of_decl.result.0.now, c.thing_of_decl.result.1) in
    let before = map port_thing m.ports in
    let new = c.add-in-loop-decl.new.self in
    let adds : Adds c.loop-decl.names new named.0 named.1 true = subst (Adds c.loop-decl.names new named.0 named.1) c.if-not-branch-2.false c.in_ok-add-2.ensures in
    let more = one_more decl_thing before m.decls i c.decl-item.result named (subst (λ (ds : List Decl). i < length ds) c.as_slice-decl-items.ensures c.loop-decl-test.true) (c.decl-item.is ∙ ap (λ (ds : List Decl). get_or ds i c.decl-item.result) c.as_slice-decl-items.ensures) c.thing_of_decl.ensures in
    subst (λ (some : List (List ℕ × Thing)). KnowsThings some new) (sym more) (KnowsThings-more (before ++ map decl_thing (take i m.decls)) c.loop-decl.names new named.0 named.1 c.loop-decl.invariant adds)

pub returns : goal.returns
returns c =
    let m = c.args.«module».now in
    let all : take c.loop-decl.decl-index m.decls ≡ m.decls = take_long m.decls c.loop-decl.decl-index (omega (arith, ap length c.as_slice-decl-items.ensures, c.loop-decl-test.false)) in
    subst (λ (some : List Decl). KnowsThings (map port_thing m.ports ++ map decl_thing some) c.loop-decl.names) all c.loop-decl.invariant
