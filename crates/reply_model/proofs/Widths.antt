-- Attributes fit their fields: `attributes_fit` is the main lemma. Modes are known by kind; sizes
-- and device numbers come from words of 32 bits, since layers are lists of bytes. Numbers are no
-- more than the nodes (`numbers_fit`).
use Rattle.std.proofs.Common.{◌≡◌, sym, subst, ℕ, ◌+◌, ◌*◌, ◌/◌, ◌%◌, ◌^◌, ◌<◌, ◌≤◌, List, length, drop, Bool, true, false, Option, Some, None, refl, arith, lit<}
use Rattle.std.specs.Prelude.{slice_index, bit_and, bit_or, unwrap_or}
use Rattle.std.specs.Option.{option_map_or}
use Rattle.std.proofs.lemmas.List.{get_or-drop}
use Rattle.std.proofs.lemmas.Nat.{and_le_l, and_le_r, or_lt}
use Rattle.romfs_format.specs.declared.head.Kind.{Kind}
use Rattle.romfs_format.specs.declared.head.Kind.TheVariants.{HardLink, Directory, Regular, SymLink, Block, Character, Socket, Fifo}
use Rattle.romfs_format.specs.declared.attribute_row.AttributeRow.{AttributeRow}
use Rattle.romfs_format.specs.Fields.{word, exec, size, spec}
use Rattle.stack_model.specs.declared.owner.Owner.{Owner}
use Rattle.stack_model.specs.Listing.{Entry, Stacked}
use Rattle.stack_model.specs.Numbers.{Place, nodes, number_of, number}
use Rattle.stack_model.specs.Attributes.{mode_of, mode_by, owner_by, size_of, device, rdev_of, layer_of, kind_at, row_of, attr_of}
use Rattle.stack_model.proofs.Numbering.{number_used, numbers_all}
use Rattle.reply_model.specs.Laws.{AreLayersOfBytes, AreOwned, IsOwner, IsRow, FitsFields}

mode_fits : (k : Kind) (b : Bool) → mode_of k b < 2 ^ 32
mode_fits HardLink b = lit< tt
mode_fits Directory true = lit< tt
mode_fits Directory false = lit< tt
mode_fits Regular true = lit< tt
mode_fits Regular false = lit< tt
mode_fits SymLink b = lit< tt
mode_fits Block b = lit< tt
mode_fits Character b = lit< tt
mode_fits Socket b = lit< tt
mode_fits Fifo b = lit< tt

size_fits : (k : Kind) (n : ℕ) → n < 2 ^ 32 → size_of k n < 2 ^ 32
size_fits Regular n l = l
size_fits SymLink n l = l
size_fits _ n l = lit< tt

device_fits : (major minor : ℕ) → major < 2 ^ 16 → minor < 2 ^ 16 → device major minor < 2 ^ 28
device_fits major minor l m =
    let low = and_le_r minor 0xff in
    let high = and_le_l minor 0xfff00 in
    or_lt 28 (bit_or (bit_and minor 0xff) (major * 2 ^ 8)) (bit_and minor 0xfff00 * 2 ^ 12)
    (or_lt 28 (bit_and minor 0xff) (major * 2 ^ 8) (omega arith) (omega arith))
    (omega arith)

rdev_fits : (k : Kind) (s : ℕ) → s < 2 ^ 32 → rdev_of k s < 2 ^ 32
rdev_fits Block s l = let d = device_fits (s / 2 ^ 16) (s % 2 ^ 16) (omega arith) (omega arith) in omega arith
rdev_fits Character s l = let d = device_fits (s / 2 ^ 16) (s % 2 ^ 16) (omega arith) (omega arith) in omega arith
rdev_fits _ s l = lit< tt

-- a word of bytes has 32 bits
word_fits : (a : List ℕ) (p : ℕ) → ((k : ℕ) → slice_index a k < 256) → word a p < 2 ^ 32
unfolding word
word_fits a p b =
    let at : (k : ℕ) → slice_index (drop p a) k < 256 = λ k. subst (λ (v : ℕ). v < 256) (sym (get_or-drop p a k 0)) (b (p + k)) in
    let b0 = at 0 in
    let b1 = at 1 in
    let b2 = at 2 in
    let b3 = at 3 in
    omega arith

-- what a row says, or the owner if there is none, fits its fields
record FitsRow (said : Option AttributeRow) (owner : Owner) (mode : ℕ) : Type 0 where
  seconds : option_map_or (λ (r : AttributeRow). r.seconds) said 0 < 2 ^ 64
  nanoseconds : option_map_or (λ (r : AttributeRow). r.nanoseconds) said 0 < 2 ^ 32
  mode_is : mode_by said mode < 2 ^ 32
  uid : (owner_by said owner).uid < 2 ^ 32
  gid : (owner_by said owner).gid < 2 ^ 32

row_fits : (row : Option AttributeRow) (owner : Owner) (mode : ℕ) → mode < 2 ^ 32 → IsOwner owner
    → ((r : AttributeRow) → row ≡ Some r → IsRow r) → FitsRow row owner mode
row_fits None owner mode l o f =
    record { seconds = lit< tt; nanoseconds = lit< tt; mode_is = l; uid = o.uid; gid = o.gid }
row_fits (Some r) owner mode l o f =
    let is = f r refl in
    record { seconds = is.seconds; nanoseconds = is.nanoseconds; mode_is = omega arith; uid = is.uid; gid = is.gid }

-- over layers of bytes, if rows and owner fit, the attributes of a place fit their fields, but
-- for its number
pub attributes_fit : (stack : Stacked) (p : Place) → AreLayersOfBytes stack.layers → AreOwned stack
    → FitsFields (attr_of stack p)
attributes_fit stack p b o =
    let a = layer_of stack.layers p in
    let s = size_fits (kind_at stack.layers p) (size a p.1) (word_fits a (p.1 + 8) (b.each p.0)) in
    let r = rdev_fits (kind_at stack.layers p) (spec a p.1) (word_fits a (p.1 + 4) (b.each p.0)) in
    let m = mode_fits (kind_at stack.layers p) (exec a p.1) in
    let row = row_fits (row_of stack p) stack.owner (mode_of (kind_at stack.layers p) (exec a p.1)) m o.owner (o.rows p) in
    record {
      size = omega arith;
      blocks = omega arith;
      seconds = row.seconds;
      nanoseconds = row.nanoseconds;
      mode = row.mode_is;
      nlink = omega arith;
      uid = row.uid;
      gid = row.gid;
      rdev = r;
    }

-- a place's number is at most the number of nodes
pub numbers_fit : (entries : List Entry) (p : Place) → number entries p ≤ length (nodes entries)
numbers_fit entries p = go (number_of entries p) refl
  where
    go : (o : Option ℕ) → number_of entries p ≡ o → unwrap_or o 0 ≤ length (nodes entries)
    go None e = omega arith
    go (Some n) e =
        let used = (number_used entries n p).0 e in
        let most = (numbers_all entries n).0 (rw (used) refl) in
        most.1
