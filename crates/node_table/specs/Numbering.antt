-- Numbers of the places of branches.
use Rattle.std.specs.Prelude.{◌≡◌, ℕ, ◌+◌, ◌-◌, ◌*◌, ◌^◌, ◌<◌, List, [], length, map, take, min, count_by, slice_get, slice_index, replicate, Some, None, unwrap_or, All}
use Rattle.std.specs.List.{range_with_len}
use Rattle.stack_model.specs.Listing.{Entry as Listed}
use Rattle.stack_model.specs.Numbers.{Place as ModelPlace, place, same_place, nodes, number_of}
use Rattle.layer_paths.specs.declared.entries.Place.{Place}
use Rattle.layer_paths.specs.declared.entries.Entry.{Entry}
use Rattle.node_reader.specs.Readers.{placed}
use Rattle.node_table.specs.declared.numbering.Form.{Form}
use Rattle.node_table.specs.declared.numbering.Form.TheVariants.{Apart, Shared}
use Rattle.node_table.specs.Walks.{Visit}

-- a place as one number
abbrev pub place_key : Place → ℕ
place_key q = q.layer * 0x100000000 + q.header

-- that of a visit
abbrev pub key_of : Visit Entry → ℕ
key_of visit = place_key visit.now.value.place

-- a number of paths plus one, at most the maximum of 32 bits
abbrev pub one_more : ℕ → ℕ
one_more n = min (n + 1) (2 ^ 32 - 1)

-- the place of a branch's value
abbrev pub visit_place : Visit Entry → ModelPlace
visit_place visit = placed visit.now.value.place

-- an entry with the branch's place
abbrev pub bare : Visit Entry → Listed
bare visit =
    record {
      path = [];
      layer = visit.now.value.place.layer;
      header =
          visit.now.value.place.header;
    }

-- as many of the first visits as entries
abbrev pub seen : List (Visit Entry) → ℕ → List Listed
seen visits i = map bare (take i visits)

-- how many entries have the place
abbrev pub paths_of : List Listed → ModelPlace → ℕ
paths_of entries p = count_by (λ e. same_place p (place e)) entries

-- the visit is the first with its place, and is here
pub record IsFirstVisit (visits : List (Visit Entry)) (visit : Visit Entry) (at : ℕ) : Type 0 where
  pub is : slice_get visits at ≡ Some visit
  pub new : number_of (seen visits at) (visit_place visit) ≡ None

-- the places of visits, each as one number
pub record AreKeys (visits : List (Visit Entry)) (keys : List ℕ) : Type 0 where
  pub are : keys ≡ map key_of visits
  pub small : All (λ (visit : Visit Entry). visit.now.value.place.header < 2 ^ 32) visits

-- the places of the first i visits are numbered
pub record IsNumbered (visits : List (Visit Entry)) (i : ℕ) (first : List (Visit Entry))
    (starts paths numbers : List ℕ) : Type 0 where
  pub places : map visit_place first ≡ nodes (seen visits i)
  pub each : (k : ℕ) (visit : Visit Entry) → slice_get first k ≡ Some visit
      → IsFirstVisit visits visit (slice_index starts k)
  pub starts_level : length starts ≡ length first
  pub level : length paths ≡ length first
  pub counted : (k : ℕ) (visit : Visit Entry) → slice_get first k ≡ Some visit
      → slice_index paths k ≡ min (paths_of (seen visits i) (visit_place visit)) (2 ^ 32 - 1)
  pub numbers_level : length numbers ≡ i
  pub known : (k : ℕ) (visit : Visit Entry) → k < i → slice_get visits k ≡ Some visit
      → number_of (seen visits i) (visit_place visit) ≡ Some (slice_index numbers k)

-- all places are numbered, by a list of their first branches
abbrev pub AreNumbered : List (Visit Entry) → List ℕ → List ℕ → List ℕ → Type 0
AreNumbered visits starts paths numbers =
    (first : List (Visit Entry)) × IsNumbered visits (length visits) first starts paths numbers

-- the positions of the first branches of places, how many branches have each place, and the numbers
-- of the branches' places
pub record Numbering : Type 0 where
  pub starts : List ℕ
  pub paths : List ℕ
  pub numbers : List ℕ

-- those of this many branches, each with a place of its own
abbrev pub numbers_apart : ℕ → Numbering
numbers_apart count = record {
  starts = map (λ k. k) (range_with_len 0 count);
  paths = replicate count 1;
  numbers = map (λ k. k + 1) (range_with_len 0 count);
}

-- those that the code keeps
abbrev pub numbering_of : {A : Type 0} → Form A → Numbering
numbering_of (Apart count) = numbers_apart count
numbering_of (Shared starts paths numbers) = record {
  starts = starts.items;
  paths = paths.items;
  numbers = numbers.items;
}

-- the number of a place that visits have; 0 for any other place
unfoldable pub number_among : List (Visit Entry) → Place → ℕ
number_among visits q = unwrap_or (number_of (seen visits (length visits)) (placed q)) 0
