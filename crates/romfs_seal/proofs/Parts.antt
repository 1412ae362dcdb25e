-- A block for which the digest vouches is read (read_block).
use Rattle.std.proofs.Common.{◌≡◌, ◌∙◌, sym, ap, subst, ℕ, ◌+◌, ◌-◌, ◌*◌, ◌/◌, ◌%◌, ◌<◌, ◌≤◌, List, length, take, drop, slice_index, arith, length-drop, length-take-le, ◌++◌, min}
use Rattle.std.proofs.lemmas.List.{get_or-take, get_or-drop, take_all}
use borrow.Rule.Slice.PartMut.{put_mid}
use Rattle.devices.proofs.Rooms.{put_front}
use Rattle.devices.proofs.Shown.{read_append}
use Rattle.devices.specs.Tree.{IsBlock, block, digest_at, fan}
use Rattle.devices.specs.File.{blocks_of, filled}
use Rattle.devices.specs.Vouched.{Vouches}
use Rattle.romfs_seal.proofs.Levels.{index-block}
use Rattle.romfs_seal.proofs.Filled.{length-block, filled-is, index-filled, block-filled}
use Rattle.devices.specs.Seal.{Seal, IsGiven}
use Rattle.devices.specs.Read.{IsUnmatched, IsReadAt, AreRead}
use Rattle.romfs_seal.specs.Kept.{IsLeaf}

-- what a block has of the file
abbrev pub part_of : ℕ → ℕ → ℕ
part_of size i = min 4096 (size - 4096 * i)

block_right : (s : Seal) (first : ℕ) (leaf : List ℕ) (i : ℕ) (b : List ℕ) → (leaf_is : IsLeaf s first leaf) → first ≤ i
    → i < first + fan s.algorithm → i < blocks_of s.size → (g : IsGiven s.image (4096 * i) (part_of s.size i) b)
    → s.hash b ≡ digest_at s.algorithm leaf (i - first) → (xs : List ℕ) → IsUnmatched s xs → g.of ≡ block xs i
block_right s first leaf i b leaf_is from less below g e xs u =
    let size : s.size ≡ length xs = leaf_is.sized xs u in
    let inside : i < blocks_of (length xs) = subst (λ k. i < blocks_of k) size below in
    let long : length (g.of) ≡ length (block xs i) = g.long ∙ ap (λ k. part_of k i) size ∙ sym (length-block xs i) in
    let same : s.hash (filled (g.of)) ≡ s.hash (filled (block xs i)) =
    ap s.hash (sym g.is) ∙ e ∙ leaf_is.right xs u i from less below ∙ ap s.hash (block-filled xs i (u.of.bytes) inside) in
    (u.blocks i inside).alone (g.of) (g.bytes) long (g.given) same

pub read_block : (s : Seal) (first : ℕ) (leaf : List ℕ) (i : ℕ) (b : List ℕ) → IsLeaf s first leaf → first ≤ i
    → i < first + fan s.algorithm → i < blocks_of s.size → IsGiven s.image (4096 * i) (part_of s.size i) b
    → s.hash b ≡ digest_at s.algorithm leaf (i - first) → AreRead s (4096 * i) (take (part_of s.size i) b)
read_block s first leaf i b leaf_is from less below g e =
    let small : length (g.of) ≤ 4096 = (let l = g.long in omega arith) in
    let is : IsBlock b = subst IsBlock (sym g.is) (filled-is (g.of) (g.bytes) small) in
    let whole = is.whole in
    let count : length (take (part_of s.size i) b) ≡ part_of s.size i = length-take-le (part_of s.size i) b (omega arith) in
    let v = leaf_is.vouches i b from less below e in
    record {
      each = λ k inside.
          let near : k < part_of s.size i = omega (arith, inside, count) in
          let at : i ≡ (4096 * i + k) / 4096 = omega arith in
          let rest : k ≡ (4096 * i + k) % 4096 = omega arith in
          let byte : slice_index (take (part_of s.size i) b) k ≡ slice_index b k = get_or-take (part_of s.size i) b k 0 near in
          record {
            vouched = record {
              within = omega arith;
              top = leaf_is.top;
              described = leaf_is.described;
              levels = leaf_is.levels;
              has_levels = leaf_is.has_levels;
              of = b;
              is_block = is;
              vouched = subst (λ j. Vouches s.algorithm s.hash leaf_is.levels leaf_is.top j b) at v;
              is = byte ∙ ap (λ j. slice_index b j) rest;
            };
            right = λ xs u. (
              (let size = leaf_is.sized xs u in omega arith),
              byte ∙ ap (λ l. slice_index l k) (g.is) ∙ index-filled (g.of) k
                  ∙ ap (λ l. slice_index l k) (block_right s first leaf i b leaf_is from less below g e xs u)
                  ∙ index-block xs i k (omega arith),
            );
          };
    }

-- a part of what was read
pub read_inside : (s : Seal) (place from count : ℕ) (bytes : List ℕ) → from + count ≤ length bytes → AreRead s place bytes
    → AreRead s (place + from) (take count (drop from bytes))
read_inside s place from count bytes fits r =
    let rest = length-drop from bytes in
    let size : length (take count (drop from bytes)) ≡ count = length-take-le count (drop from bytes) (omega arith) in
    record {
      each = λ k below.
          let near : k < count = omega (arith, below, size) in
          let at : place + (from + k) ≡ place + from + k = omega arith in
          let byte : slice_index (take count (drop from bytes)) k ≡ slice_index bytes (from + k) =
          get_or-take count (drop from bytes) k 0 near ∙ get_or-drop from bytes k 0 in
          subst (λ x. IsReadAt s (place + from + k) x) (sym byte)
          (subst (λ j. IsReadAt s j (slice_index bytes (from + k))) at (r.each (from + k) (omega arith)));
    }

read_more : (s : Seal) (place done count k : ℕ) (room part : List ℕ) → done ≤ length room
    → length part ≡ count → AreRead s place (take done room) → AreRead s (place + done) part
    → AreRead s place (take (done + count) (put_mid done k room part))
read_more s place done count k room part d l v w =
    let e : take (done + count) (put_mid done k room part) ≡ take done room ++ take count part =
    put_front room part done count k d (omega arith) in
    let size : length (take done room) ≡ done = length-take-le done room d in
    let whole : take count part ≡ part = take_all count part (omega arith) in
    subst (λ r. AreRead s place r) (sym (e ∙ ap (λ r. take done room ++ r) whole))
    (read_append s place (take done room) part v (subst (λ j. AreRead s (place + j) part) (sym size) w))

-- the same of a part of the room that was lent
pub read_lent : (s : Seal) (place done count k : ℕ) (room part : List ℕ) → done + count ≤ length room
    → k ≡ count → length part ≡ length (take k (drop done room)) → AreRead s place (take done room)
    → AreRead s (place + done) part → AreRead s place (take (done + count) (put_mid done k room part))
read_lent s place done count k room part fits same size v w =
    let rest = length-drop done room in
    let long : length (take k (drop done room)) ≡ k = length-take-le k (drop done room) (omega arith) in
    read_more s place done count k room part (omega arith) (size ∙ long ∙ same) v w
