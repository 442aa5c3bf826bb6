-- What a search through a graph knows: private words of the code's clauses.
use Rattle.std.specs.Prelude.{◌≡◌, ℕ, ◌+◌, ◌-◌, ◌<◌, ◌≤◌, nat_le, ◌↔◌, ◌⊎◌, Bool, true, false, IsTrue, List, [], ◌∷◌, ◌++◌, length, take, slice_index, slice_index_or, Option, Some, None, IfSome, if◌then◌else◌}
use Rattle.std.specs.List.{All}
use Rattle.lg_graph.specs.declared.groups.Group.{Group}
use Rattle.lg_graph.specs.declared.search.Place.{Place}
use Rattle.lg_graph.specs.declared.search.Place.TheVariants.{New, OnPath, Done}
use Rattle.lg_graph.specs.declared.search.Search.{Search}
use Rattle.lg_graph.specs.Graph.{Graph, HasArrow, Leads}

-- the group of a place where there is none
unfoldable pub no_group : Group
no_group = record { first = 0; arrows = 0; looped = false }

-- the last of some groups that begins at a place or before it, and where none does another one
abbrev pub last_begun : ℕ → Group → List Group → Group
last_begun place found [] = found
last_begun place found (g ∷ more) = last_begun place (if nat_le g.first place then g else found) more

-- the group of a place of the path
abbrev pub group_at : List Group → ℕ → Group
group_at groups place = last_begun place no_group groups

-- one group stands before another
abbrev pub IsBefore : Group → Group → Type 0
IsBefore g h = (g.first < h.first) × (g.arrows ≤ h.arrows)

-- groups stand in order
abbrev pub AreRising : List Group → Type 0
AreRising [] = Unit {0}
AreRising (g ∷ more) = All (IsBefore g) more × AreRising more

-- there is a group, and the first one begins at 0
abbrev pub StartsAtZero : List Group → Type 0
StartsAtZero [] = ⊥
StartsAtZero (g ∷ more) = g.first ≡ 0

-- the group of a place and those after it are one
pub record IsJoined (place : ℕ) (old new : List Group) : Type 0 where
  pub before : List Group
  pub joined : Group
  pub after : List Group
  pub old_is : old ≡ before ++ joined ∷ after
  pub new_is : new ≡ before ++ record joined { looped = true } ∷ []
  pub begun : joined.first ≤ place
  pub later : All (λ g. place < g.first) after

-- what is known of a node; a number that is no node is new
abbrev pub place_of : Search → ℕ → Place
place_of s node = slice_index_or s.places node New

-- a node itself, or one that it leads to
abbrev pub Reaches : Graph → ℕ → ℕ → Type 0
Reaches graph from to = (from ≡ to) ⊎ Leads graph from to

-- the node on the path at a place
abbrev pub node_at : Search → ℕ → ℕ
node_at s a = slice_index s.path a

-- what is known of an arrow of the node at a place of the path: it is open, or was followed; `hand` is the one that is
-- being followed
pub data IsKnown (s : Search) (hand : Option ℕ) (a to : ℕ) : Type 0 where
  -- it is open, among the arrows of the place's group or of later ones
  Open : (k : ℕ) → (group_at s.groups a).arrows ≤ k → k < length s.arrows → slice_index s.arrows k ≡ to → IsKnown s hand a to
  -- its node is done
  ToDone : (i : ℕ) → place_of s to ≡ Done i → IsKnown s hand a to
  -- its node is on the path, in the place's group or a later one; where it leads to its own node the group is on a cycle
  ToPath : (b : ℕ) → place_of s to ≡ OnPath b → (group_at s.groups a).first ≤ b → (b ≡ a → (group_at s.groups a).looped ≡ true)
      → IsKnown s hand a to
  InHand : hand ≡ Some to → IsKnown s hand a to

-- a place of the path whose node has this arrow, in the group that holds the arrow or a later one
pub record HasSource (graph : Graph) (s : Search) (k to : ℕ) : Type 0 where
  pub at : ℕ
  pub within : at < length s.path
  pub arrow : HasArrow graph (node_at s at) to
  pub begun : (group_at s.groups at).arrows ≤ k
  pub late : All (λ g. g.arrows ≤ k → g.first ≤ at) s.groups

-- the arrow in hand leaves a node of the last group
pub record HasLastSource (graph : Graph) (s : Search) (to : ℕ) : Type 0 where
  pub at : ℕ
  pub within : at < length s.path
  pub arrow : HasArrow graph (node_at s at) to
  pub late : All (λ g. g.first ≤ at) s.groups

-- what holds of nodes that are done: an arrow leads from one to another that stands before it, or along a cycle
pub record AreDone (graph : Graph) (s : Search) : Type 0 where
  pub in_order : (i : ℕ) → i < length s.order → place_of s (slice_index s.order i) ≡ Done i
  pub order_of : (node i : ℕ) → place_of s node ≡ Done i → (i < length s.order) × (slice_index s.order i ≡ node)
  pub back : (node i to : ℕ) → place_of s node ≡ Done i → HasArrow graph node to
      → (j : ℕ) × (place_of s to ≡ Done j) × ((j < i) ⊎ Leads graph to node)
  pub told : (node i : ℕ) → place_of s node ≡ Done i → IsTrue (slice_index_or s.cyclic node false) ↔ Leads graph node node

-- what holds of the path and its groups
pub record IsPath (graph : Graph) (s : Search) : Type 0 where
  pub on_path : (a : ℕ) → a < length s.path → place_of s (node_at s a) ≡ OnPath a
  pub path_of : (node a : ℕ) → place_of s node ≡ OnPath a → (a < length s.path) × (node_at s a ≡ node)
  pub begun : 0 < length s.path → StartsAtZero s.groups
  pub rising : AreRising s.groups
  pub within : All (λ g. (g.first < length s.path) × (g.arrows ≤ length s.arrows)) s.groups
  -- a node reaches all of its group and of later ones
  pub reaches : (a b : ℕ) → a < length s.path → b < length s.path → (group_at s.groups a).first ≤ b
      → Reaches graph (node_at s a) (node_at s b)
  pub loops : (a : ℕ) → a < length s.path → (group_at s.groups a).looped ≡ true → Leads graph (node_at s a) (node_at s a)
  -- a group that is not known to be on a cycle has one node
  pub alone : (a : ℕ) → a < length s.path → (group_at s.groups a).looped ≡ false → (group_at s.groups a).first ≡ a

-- what holds between two steps of the search, with or without an arrow in hand
pub record IsSearch (graph : Graph) (hand : Option ℕ) (s : Search) : Type 0 where
  pub places : length s.places ≡ length graph
  pub marks : length s.cyclic ≡ length graph
  pub done : AreDone graph s
  pub path : IsPath graph s
  pub known : (a to : ℕ) → a < length s.path → HasArrow graph (node_at s a) to → IsKnown s hand a to
  pub sources : (k to : ℕ) → k < length s.arrows → slice_index s.arrows k ≡ to → HasSource graph s k to
  pub in_hand : IfSome hand (HasLastSource graph s)

-- nothing was met
pub record IsNew (nodes : ℕ) (s : Search) : Type 0 where
  pub places : length s.places ≡ nodes
  pub marks : length s.cyclic ≡ nodes
  pub new : (node : ℕ) → place_of s node ≡ New
  pub path : s.path ≡ []
  pub groups : s.groups ≡ []
  pub arrows : s.arrows ≡ []
  pub order : s.order ≡ []

-- what was met stays met
abbrev pub KeepsMet : Search → Search → Type 0
KeepsMet old new = (node : ℕ) → place_of new node ≡ New → place_of old node ≡ New

-- the work that the nodes still to be met will be: the arrows of each, and two more
abbrev pub work_of : Graph → List Place → ℕ
work_of [] places = 0
work_of (arrows ∷ graph) [] = 0
work_of (arrows ∷ graph) (New ∷ places) = length arrows + 2 + work_of graph places
work_of (arrows ∷ graph) (OnPath a ∷ places) = work_of graph places
work_of (arrows ∷ graph) (Done i ∷ places) = work_of graph places

-- the work that is left
abbrev pub work : Graph → Search → ℕ
work graph s = work_of graph s.places + length s.arrows + length s.groups

-- a new node: the first one on the path, or the one that the arrow in hand leads to
pub record IsVisitable (graph : Graph) (node : ℕ) (s : Search) : Type 0 where
  pub within : node < length graph
  pub is_new : place_of s node ≡ New
  pub hand : Option ℕ
  pub search : IsSearch graph hand s
  pub reached : (hand ≡ Some node) ⊎ ((hand ≡ None) × (s.path ≡ []))

-- there is a group, and the last one has no open arrows
pub record IsClosable (s : Search) : Type 0 where
  pub before : List Group
  pub last : Group
  pub groups : s.groups ≡ before ++ last ∷ []
  pub all_followed : length s.arrows ≤ last.arrows
  pub within : last.first ≤ length s.path
  pub on_path : (a : ℕ) → a < length s.path → place_of s (node_at s a) ≡ OnPath a
  pub marks : length s.cyclic ≡ length s.places

-- the nodes of the path from a place on are done, and their marks are this; the later on the path, the earlier in the order
pub record IsFinished (first : ℕ) (looped : Bool) (old new : Search) : Type 0 where
  pub groups : new.groups ≡ old.groups
  pub arrows : new.arrows ≡ old.arrows
  pub places : length new.places ≡ length old.places
  pub marks : length new.cyclic ≡ length old.cyclic
  pub path : new.path ≡ take first old.path
  pub order : length new.order ≡ length old.order + (length old.path - first)
  pub before : (i : ℕ) → i < length old.order → slice_index new.order i ≡ slice_index old.order i
  pub ordered : (a : ℕ) → first ≤ a → a < length old.path
      → slice_index new.order (length old.order + (length old.path - (a + 1))) ≡ node_at old a
  pub placed : (a : ℕ) → first ≤ a → a < length old.path
      → place_of new (node_at old a) ≡ Done (length old.order + (length old.path - (a + 1)))
  pub marked : (a : ℕ) → first ≤ a → a < length old.path → slice_index_or new.cyclic (node_at old a) false ≡ looped
  pub others : (node : ℕ) → ((a : ℕ) → first ≤ a → a < length old.path → node_at old a ≡ node → ⊥)
      → (place_of new node ≡ place_of old node) × (slice_index_or new.cyclic node false ≡ slice_index_or old.cyclic node false)
  pub work : (graph : Graph) → work_of graph new.places ≡ work_of graph old.places

-- the last group is closed
pub record IsClosed (old new : Search) : Type 0 where
  pub before : List Group
  pub last : Group
  pub groups : old.groups ≡ before ++ last ∷ []
  pub finished : IsFinished last.first last.looped (record old { groups = before }) new
