-- Reading a node's data: their length (`data_long`) and place in the image of their layer (`data_there`), those of a part (`part_long`,
-- `part_there`), and that a READ gets what it asks for (`read_decided`). Possible replies: with no bytes the reply itself
-- (`nothing_told`), also without a file (`table_told`) and from held bytes (`held_appended`); from the file of their layer what the file
-- returns (`file_read`).
use Rattle.std.proofs.Common.{◌≡◌, ◌∙◌, sym, ap, subst, ℕ, ◌+◌, ◌-◌, ◌≤◌, min, inl, List, [], ◌++◌, length, take, drop, map, Bool, Bor, Option, Some, None, Result, Ok, Err, refl, arith, length-drop}
use Rattle.std.specs.Prelude.{slice_get}
use Rattle.std.specs.Option.{option_map}
use Rattle.std.proofs.lemmas.Bool.{le-ltb}
use Rattle.std.proofs.lemmas.List.{length-take, take_all, take_min, take-take, drop-take, drop-drop, drop_at, drop_all}
use Rattle.std.proofs.lemmas.Option.{slice_get-map}
use Rattle.devices.specs.Sources.{Source, MayGive, held}
use Rattle.devices.proofs.Given.{gives_none}
use Rattle.romfs_format.specs.declared.head.Kind.TheVariants.{Regular}
use Rattle.romfs_reader.specs.Readers.{bytes_at}
use Rattle.fuse_wire.specs.declared.errno.Errno.{Errno}
use Rattle.fuse_wire.specs.declared.limits.TheConstants.{OUT_HEADER_SIZE, MAX_DATA_SIZE}
use Rattle.fuse_wire.specs.Requests.{read}
use Rattle.fuse_wire.specs.Replies.{reply_head, reply_with, error_reply}
use Rattle.fuse_wire.specs.Appends.{Appends, Filled}
use Rattle.fuse_wire.specs.Told.{AppendsTold, Reading, IsTold, read_from}
use Rattle.fuse_wire.proofs.Sizes.{length-head, length-error_reply}
use Rattle.fuse_wire.proofs.Telling.{held_told}
use Rattle.stack_model.specs.Listing.{Stacked}
use Rattle.stack_model.specs.Numbers.{Place}
use Rattle.stack_model.specs.Attributes.{data_of, data_start}
use Rattle.node_reader.specs.declared.node.Node.{Node}
use Rattle.node_reader.specs.Readers.{HoldsData, IsNodeOf, placed}
use Rattle.reply_model.specs.declared.session.Agreement.{Agreement}
use Rattle.reply_model.specs.Readings.{sourced, data_reading}
use Rattle.fuse_answer.specs.declared.outcome.Answer.TheVariants.{Data}
use Rattle.fuse_answer.specs.Answers.{DecidesAt, IsAnswerAt}

module _ (layers : List (List ℕ)) (layer : ℕ) (node : Node) (p : Place) (holds : HoldsData layers layer node p) where
  -- data are as many as the node says
  pub data_long : length (data_of layers p) ≡ node.part.len
  unfolding bytes_at
  data_long =
      let e = ap length (sym holds.data_is) ∙ length-take node.part.len (drop node.part.start holds.image) in
      let d = length-drop node.part.start holds.image in
      let w = holds.lies.within in
      omega arith

  -- all of them are the data
  pub all_data : take node.part.len (drop 0 (data_of layers p)) ≡ data_of layers p
  all_data = let l = data_long in take_all node.part.len (data_of layers p) (omega arith)

  -- existing bytes from an offset on are as many as requested, up to the end
  same_part : (offset size : ℕ) → take (min size (node.part.len - offset)) (drop offset (data_of layers p))
      ≡ take size (drop offset (data_of layers p))
  same_part offset size =
      let l = data_long in
      let d = length-drop offset (data_of layers p) in
      let left : node.part.len - offset ≡ length (drop offset (data_of layers p)) = omega arith in
      ap (λ n. take (min size n) (drop offset (data_of layers p))) left ∙ take_min size (drop offset (data_of layers p))

  -- and are in the image of the layer where the node says
  pub data_there : (image : List ℕ) → slice_get layers layer ≡ Some image
      → bytes_at image node.part.start node.part.len ≡ data_of layers p
  data_there image is =
      let same : Some holds.image ≡ Some image = sym holds.is ∙ is in
      let image_is : holds.image ≡ image = cc in
      ap (λ a. bytes_at a node.part.start node.part.len) (sym image_is) ∙ holds.data_is

  module _ (offset len : ℕ) (within : offset + len ≤ node.part.len) where
    -- a part is as long as it says
    pub part_long : length (take len (drop offset (data_of layers p))) ≡ len
    part_long =
        let l = data_long in
        let d = length-drop offset (data_of layers p) in
        let t = length-take len (drop offset (data_of layers p)) in
        omega arith

    -- and is in the image of the layer after the place where the data begin
    pub part_there : (image : List ℕ) → slice_get layers layer ≡ Some image
        → bytes_at image (node.part.start + offset) len ≡ take len (drop offset (data_of layers p))
    unfolding bytes_at
    part_there image is =
        let same : Some holds.image ≡ Some image = sym holds.is ∙ is in
        let image_is : holds.image ≡ image = cc in
        let behind = drop node.part.start image in
        let data_is : data_of layers p ≡ take node.part.len behind =
        sym holds.data_is ∙ ap (λ a. take node.part.len (drop node.part.start a)) image_is in
        let e : node.part.len ≡ offset + (node.part.len - offset) = omega arith in
        let rest : drop offset (data_of layers p) ≡ take (node.part.len - offset) (drop (node.part.start + offset) image) =
        ap (drop offset) (data_is ∙ ap (λ n. take n behind) e) ∙ drop-take offset (node.part.len - offset) behind
        ∙ ap (take (node.part.len - offset)) (drop-drop offset node.part.start image) in
        sym (ap (take len) rest ∙ take-take len (node.part.len - offset) (drop (node.part.start + offset) image) (omega arith))

module _ (A : Type 0) (stack : Stacked) (agreed : Agreement) (n offset size : ℕ) where
  read_at_place : (node : Bor Node) (len : ℕ) → IsNodeOf stack n node.now → node.now.kind ≡ Regular → size ≤ MAX_DATA_SIZE
      → len ≡ min size (node.now.part.len - offset)
      → IsAnswerAt {A = A} stack agreed (read offset size) (placed node.now.place)
      (Data (record { node = node; offset = offset; len = len }))
  read_at_place node len is kind small count = record {
    taken = rw (sym is.kind_is ∙ kind, le-ltb MAX_DATA_SIZE size small) refl;
    data_is = rw count (same_part stack.layers node.now.place.layer node.now (placed node.now.place) is.holds offset size);
    reads_are = λ sources. refl;
    sized = (is.holds, λ some. omega arith);
    moves_are = refl;
  }

  -- a READ of a regular file gets its data from the offset on, as many as are asked for, up to the end
  pub read_decided : (node : Bor Node) (len : ℕ) → IsNodeOf stack n node.now → node.now.kind ≡ Regular → size ≤ MAX_DATA_SIZE
      → len ≡ min size (node.now.part.len - offset)
      → DecidesAt {A = A} stack agreed n (read offset size) (Ok (Data (record { node = node; offset = offset; len = len })))
  read_decided node len is kind small count = rw is.place_is (read_at_place node len is kind small count)

-- a reply that may be as defined is appended as defined
pub appends_told : {E : Type 0} (reading : Option Reading) (result : Result (Unit {0}) E) (before after : Filled) (unique : ℕ)
    (defined : List ℕ) → IsTold reading unique defined defined → Appends result before after defined
    → AppendsTold result before after reading unique defined
appends_told reading (Ok x) before after unique defined told a = ((defined, told, a.0), a.1, a.2, a.3)
appends_told reading (Err e) before after unique defined told a = (tt, a.1, a.2, a.3)

data_behind : (unique : ℕ) (bytes : List ℕ) → drop OUT_HEADER_SIZE (reply_with unique bytes) ≡ bytes
unfolding reply_with
data_behind unique bytes = drop_at (reply_head unique (length bytes)) bytes OUT_HEADER_SIZE (length-head unique (length bytes))

-- a reply without data is unchanged, whatever its data would be read from
pub nothing_told : (reading : Option Reading) (unique : ℕ) → IsTold reading unique (reply_with unique []) (reply_with unique [])
nothing_told None unique = refl
nothing_told (Some reading) unique = inl (record {
  long = refl;
  head = refl;
  given = subst (MayGive reading.source reading.place) (sym (data_behind unique [])) (gives_none reading.source reading.place);
})

-- and a part of no bytes has none
pub none_taken : (n : ℕ) (xs : List ℕ) → n ≡ 0 → [] ≡ take n xs
none_taken n xs e = rw e refl

-- the reply from held bytes is appended as it is defined
pub held_appended : {E : Type 0} (xs : List ℕ) (place unique : ℕ) (bytes : List ℕ) (result : Result (Unit {0}) E) (before after : Filled)
    → bytes ≡ bytes_at xs place (length bytes)
    → AppendsTold result before after (read_from (held xs) place) unique (reply_with unique bytes)
    → Appends result before after (reply_with unique bytes)
unfolding bytes_at
held_appended xs place unique bytes (Err e) before after there a = (tt, a.1, a.2, a.3)
held_appended xs place unique bytes (Ok x) before after there a =
    let same = held_told xs place unique (reply_with unique bytes) a.0.0
    (data_behind unique bytes ∙ there ∙ ap (λ l. take (length l) (drop place xs)) (sym (data_behind unique bytes))) a.0.1 in
    (a.0.2 ∙ ap (λ l. before.items ++ l) same, a.1, a.2, a.3)

-- the reply of an error is unchanged
pub error_told : (reading : Option Reading) (unique : ℕ) (errno : Errno)
    → IsTold reading unique (error_reply unique errno) (error_reply unique errno)
error_told None unique errno = refl
error_told (Some reading) unique errno = inl (record {
  long = refl;
  head = refl;
  given = subst (MayGive reading.source reading.place)
      (sym (drop_all OUT_HEADER_SIZE (error_reply unique errno) (let e = length-error_reply unique errno in omega arith)))
      (gives_none reading.source reading.place);
})

module _ {D : Type 0} (source : D → Source) (files : List D) (stack : Stacked) (offset : ℕ) (p : Place) where
  -- the data of a layer without a file are given as they are held
  pub table_told : slice_get files p.0 ≡ None → (unique : ℕ) (defined : List ℕ)
      → IsTold (data_reading (sourced stack (map source files)) offset p) unique defined defined
  table_told none unique defined = rw (slice_get-map source files p.0 ∙ ap (option_map source) none) refl

  -- those of a layer that has one are read from it
  pub file_read : (file : D) (start : ℕ) → slice_get files p.0 ≡ Some file → start ≡ data_start stack.layers p
      → read_from (source file) (start + offset) ≡ data_reading (sourced stack (map source files)) offset p
  file_read file start there begins = rw (slice_get-map source files p.0 ∙ ap (option_map source) there, begins) refl
