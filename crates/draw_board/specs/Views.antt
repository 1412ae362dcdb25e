-- What hands know, the rule that holds between any two steps, and what each step changes and gives.
use Rattle.std.specs.Prelude.{◌≡◌, ℕ, suc, ◌+◌, ◌-◌, ◌^◌, ◌<◌, ◌≤◌, max, List, [], ◌∷◌, ◌++◌, length, slice_index, if◌then◌else◌, nat_lt, sum_by}
use mathlib.Core.Option.{some}
use lib.ListN.{get_elem?}
use Rattle.atomic_table.specs.Table.{State, Me, Step}
use Rattle.draw_board.specs.declared.view.View.{View}
use Rattle.draw_board.specs.Positions.{times, RisesWithin, merged}

-- the board's total and misses
abbrev pub Key : Type 0
Key = ℕ × ℕ

-- the board's one word, and a view for each seat
abbrev pub Table : Type 0
Table = State (Unit {0}) View

-- a hand's view, beside the slots that it has taken, of which a board has none
abbrev pub Seated : Type 0
Seated = Me (Unit {0}) View

-- a view by itself: its positions rise below what it knows; after a miss it knows the total
pub record IsSoundView (v : View) : Type 0 where
  pub rises : RisesWithin 0 v.positions v.seen
  pub within_share : v.left ≤ v.share
  pub missed : v.left < v.share → v.total ≤ v.seen

-- a view beside its board: nothing at or above the word is known; without a share it is spent
pub record FitsBoard (key : Key) (word : ℕ) (v : View) : Type 0 where
  pub sound : IsSoundView v
  pub passed : v.seen ≤ word
  pub spent : v.share ≡ 0 → v.positions ≡ []
  pub told : 1 ≤ v.share → (v.total ≡ key.0) × (v.misses ≡ key.1)

-- the rule: of each view, of all views at each position, and of the sums over all views
pub record IsSoundBoard (key : Key) (s : Table) : Type 0 where
  pub one_word : length s.words ≡ 1
  pub room : key.0 + key.1 < 2 ^ 63
  pub each : (id : ℕ) (v : View) → get_elem? s.views id ≡ some v
      → FitsBoard key (slice_index s.words 0) v
  pub once : (position : ℕ) → sum_by (λ v. times position v.positions) s.views ≤ 1
  pub all_drawn : sum_by (λ v. length v.positions) s.views ≡ slice_index s.words 0
  pub all_shares : sum_by (λ v. v.share) s.views ≡ key.1
  pub bounded : slice_index s.words 0 + sum_by (λ v. v.left) s.views ≤ key.0 + key.1

-- what a view knows of its board
abbrev pub known_key : View → Key
known_key v = (v.total, v.misses)

-- a view on a board with this key
abbrev pub view : Key → List ℕ → ℕ → ℕ → ℕ → ℕ → View
view key positions left share seen asked = record {
  positions = positions;
  left = left;
  share = share;
  seen = seen;
  total = key.0;
  misses = key.1;
  asked = asked;
}

-- the first view: no position, all misses, nothing known
abbrev pub first_view : Key → View
first_view key = view key [] key.1 key.1 0 0

-- after a draw at position p: a miss (p is no number) costs one
abbrev pub after_draw : View → ℕ → View
after_draw v p = view (known_key v) (v.positions ++ p ∷ []) left v.share (suc p) v.asked
  where
    left : ℕ
    left = if nat_lt p v.total then v.left else v.left - 1

-- a split moves the announced number of misses from the giver's view to a new one
abbrev pub giver_view : View → View
giver_view v = view (known_key v) v.positions (v.left - v.asked) (v.share - v.asked) v.seen v.asked

-- the new one has no position, knows what the giver knew, and has announced nothing
abbrev pub given_view : View → View
given_view v = view (known_key v) [] v.asked v.asked v.seen 0

-- a rejoin makes one view from two, which has no number announced
abbrev pub joined_view : View → View → View
joined_view v w =
    view (known_key v) (merged v.positions w.positions) (v.left + w.left)
    (v.share + w.share) (max v.seen w.seen) 0

-- a view with nothing left, as a rejoin leaves it in the other's seat
abbrev pub spent_view : View
spent_view = view (0, 0) [] 0 0 0 0

-- a draw shows that its position was new
abbrev pub drew : Step (Unit {0}) → Seated → ℕ → Seated → Type 0
drew _ before p after =
    (after ≡ (after_draw before.0 p, before.1)) × (before.0.seen ≤ p) × IsSoundView after.0

-- an announcement of how many misses a split will move
abbrev pub announced : Step (Unit {0}) → Seated → ℕ → Seated → Type 0
announced step before _ after = after ≡ (record before.0 { asked = step.first }, before.1)

-- a look changes nothing, and gives what the rule says about the view
abbrev pub looked : Step (Unit {0}) → Seated → ℕ → Seated → Type 0
looked _ before _ after = (after ≡ before) × IsSoundView after.0 × (after.0.share ≤ after.0.misses)
