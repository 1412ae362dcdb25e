-- A reply over sound images is short (`short`), so its header holds its full length (`said`). By the kind of request: structures have their
-- sizes, READ and rows are bounded by the requested size, and a link's target by the rules of images (`short_link`).
use Rattle.std.proofs.Common.{◌≡◌, ◌∙◌, sym, ap, subst, ℕ, zero, suc, ◌<◌, ◌≤◌, ◌^◌, ◌⊎◌, inl, inr, List, [], ◌∷◌, ◌++◌, length, map, take, drop, Bool, true, false, Option, Some, None, cond, refl, arith, lit≤, All}
use Rattle.std.specs.Prelude.{slice_get, nat_lt}
use Rattle.std.specs.List.{flat_map}
use Rattle.std.specs.Option.{option_map_or}
use Rattle.std.proofs.lemmas.Bool.{ltb-false, or_parts}
use Rattle.std.proofs.lemmas.List.{length-take}
use Rattle.std.proofs.lemmas.List.Elements.{All-head, All-tail}
use Rattle.std.proofs.lemmas.Option.{get_or_from_slice_get}
use Rattle.byteorder.specs.Numbers.{little_number-reads_back}
use Rattle.romfs_format.specs.declared.rule.Profile.TheVariants.{Usual}
use Rattle.romfs_format.specs.declared.head.Kind.{Kind}
use Rattle.romfs_format.specs.declared.head.Kind.TheVariants.{SymLink}
use Rattle.romfs_format.specs.declared.limits.TheConstants.{MAX_TARGET_SIZE}
use Rattle.romfs_format.specs.Fields.{image, kind, size, name, data_at}
use Rattle.romfs_format.specs.Chains.{Has}
use Rattle.romfs_format.specs.Links.{IsFinal}
use Rattle.romfs_format.specs.Rules.{IsSound}
use Rattle.romfs_format.proofs.Targets.{short_target}
use Rattle.fuse_wire.specs.declared.errno.Errno.{Errno}
use Rattle.fuse_wire.specs.declared.errno.Errno.TheVariants.{ESTALE}
use Rattle.fuse_wire.specs.declared.reply.InitOut.{InitOut}
use Rattle.fuse_wire.specs.declared.reply.InitOut.TheVariants.{Version, Terms}
use Rattle.fuse_wire.specs.declared.limits.TheConstants.{MAX_DATA_SIZE, MAX_REPLY_SIZE}
use Rattle.fuse_wire.specs.Stream.{said_length}
use Rattle.fuse_wire.specs.Requests.{NodeOp, Op, Asked, init, at_node, lookup, getattr, readlink, open_file, read, opendir, readdir, readdirplus, getxattr, listxattr, statfs}
use Rattle.fuse_wire.specs.Structures.{u32, u64, init_out, entry_out, negative_entry_out}
use Rattle.fuse_wire.specs.Replies.{reply_with, error_reply}
use Rattle.stack_model.specs.Listing.{Stacked, IsListing}
use Rattle.stack_model.specs.Numbers.{Place, nodes, node_of}
use Rattle.stack_model.specs.Attributes.{blocks_all, has_acls, xattrs_of, kind_at, size_at, layer_of, data_of, attr_of}
use Rattle.stack_model.proofs.Listings.{IsLedTo, led_to}
use Rattle.stack_model.proofs.Numbering.{number_listed}
use Rattle.reply_model.specs.declared.session.Agreement.{Agreement}
use Rattle.reply_model.specs.declared.session.Session.{Session}
use Rattle.reply_model.specs.Sessions.{agreement_of}
use Rattle.reply_model.specs.Lookups.{looked_up}
use Rattle.reply_model.specs.Rows.{Row, dirent_of, direntplus_of, fitting}
use Rattle.reply_model.specs.Services.{unless_link, is_too_large, refused_rows, opendir_flags, serves_acls, service}
use Rattle.reply_model.specs.Refusals.{refused_by_op, refused_at, refusal}
use Rattle.reply_model.specs.Replies.{is_silent, answer_at, answer, reply}
use Rattle.fuse_wire.proofs.Sizes.{length-error_reply, length-reply_with, length-version, length-terms, length-entry_out, length-negative_entry_out, length-attr_out, length-open_out, length-statfs_out}
use Rattle.reply_model.proofs.Fronts.{front}
use Rattle.reply_model.proofs.Refused.{both_none, if_none, not_by_op}
use Rattle.reply_model.specs.Laws.{AreListed}
use Rattle.reply_model.proofs.Xattrs.{short_value, short_names}
use Rattle.reply_model.proofs.Headers.{headed}

-- the answer to INIT has at most 64 bytes
short_init : (o : InitOut) → length (init_out o) ≤ 64
short_init Version = let l = length-version in omega arith
short_init (Terms lasting acls minor readahead flags) = either (nat_lt minor 23) (length-terms lasting acls minor readahead flags)
  where
    either : (b : Bool) → length (init_out (Terms lasting acls minor readahead flags)) ≡ cond b 24 64
        → length (init_out (Terms lasting acls minor readahead flags)) ≤ 64
    either true e = omega arith
    either false e = omega arith

-- some first bytes are no more than requested
length-front : (n : ℕ) (xs : List ℕ) → length (take n xs) ≤ n
length-front n xs = let e = length-take n xs in omega arith

-- a size that is not too large
not_large : (n : ℕ) → is_too_large n ≡ false → n ≤ MAX_DATA_SIZE
not_large n e = ltb-false MAX_DATA_SIZE n e

-- only for symbolic links is READLINK answered
is_link : (k : Kind) → unless_link k ≡ None → k ≡ SymLink
is_link SymLink e = refl
is_link _ e = absurd (cc)

-- a layer is the accessible bytes of a sound image
sound_layer : (bs : List (List ℕ)) (i : ℕ) (a : List ℕ) → All (IsSound Usual) bs → slice_get (map image bs) i ≡ Some a
    → (b : List ℕ) × IsSound Usual b
    × (a ≡ image b)
sound_layer [] i a s e = absurd (cc)
sound_layer (b ∷ bs) zero a s e = (b, All-head (IsSound Usual) b bs s, (let q : image b ≡ a = cc in sym q))
sound_layer (b ∷ bs) (suc i) a s e = sound_layer bs i a (All-tail (IsSound Usual) b bs s) e

-- the data of a symbolic link is no longer than its header says
link_data : (layers : List (List ℕ)) (p : Place) (n : ℕ) → kind_at layers p ≡ SymLink → size (layer_of layers p) p.1 ≤ n
    → length (data_of layers p) ≤ n
unfolding data_of
link_data layers p n k l =
    let s : size_at layers p ≡ size (layer_of layers p) p.1 = rw k refl in
    let a = layer_of layers p in
    let f = length-front (size_at layers p) (drop (option_map_or (data_at p.1) (name a p.1) 0) a) in
    omega arith

-- the length that a header says, read back
said_header : (n error unique : ℕ) (rest : List ℕ) → n < 2 ^ 32 → said_length (u32 n ++ u32 error ++ u64 unique ++ rest) ≡ n
unfolding u32 u64
said_header n error unique rest l = little_number-reads_back 4 n (u32 error ++ (u64 unique ++ rest)) l

module _ (bs : List (List ℕ)) (stack : Stacked) (sound : All (IsSound Usual) bs) (are : stack.layers ≡ map image bs)
    (l : IsListing stack.layers stack.entries) (listed : AreListed stack) where
  -- a symbolic link with a number has a short target
  short_link : (node : ℕ) (p : Place) → node_of stack.entries node ≡ Some p → kind_at stack.layers p ≡ SymLink
      → length (data_of stack.layers p) ≤ MAX_TARGET_SIZE
  short_link node p e k =
      let m = number_listed stack.entries node p e in
      let t = subst (λ q. IsLedTo stack.layers q.0 q.1) m.2 (led_to stack.layers stack.entries m.0 l m.1) in
      let s = sound_layer bs p.0 t.bytes sound (subst (λ ls. slice_get ls p.0 ≡ Some t.bytes) are t.is) in
      let here : layer_of stack.layers p ≡ image s.0 = get_or_from_slice_get stack.layers p.0 t.bytes [] t.is ∙ s.2 in
      let has = subst (λ a. Has a t.path t.first) s.2 t.has in
      let ends = subst (λ a. IsFinal a t.first p.1) s.2 t.ends in
      let short = short_target s.0 s.1 t.path t.first p.1 has ends (subst (λ a. kind a p.1 ≡ SymLink) here k) in
      link_data stack.layers p MAX_TARGET_SIZE k (subst (λ a. size a p.1 ≤ MAX_TARGET_SIZE) (sym here) short)

  -- what is not refused at a node is refused neither by its kind nor by the arguments
  by_kind : (x : Agreement) (op : NodeOp) (p : Place) → refused_at stack x op p ≡ None
      → (service stack x op).by_kind (kind_at stack.layers p) ≡ None
  by_kind x op p r = let asked = service stack x op in (both_none (asked.by_kind (kind_at stack.layers p)) (asked.by_arguments p) r).0

  by_arguments : (x : Agreement) (op : NodeOp) (p : Place) → refused_at stack x op p ≡ None
      → (service stack x op).by_arguments p ≡ None
  by_arguments x op p r = let asked = service stack x op in
      (both_none (asked.by_kind (kind_at stack.layers p)) (asked.by_arguments p) r).1

  -- rows that are answered fit in 1 MiB
  short_rows : (form : Row → List ℕ) (rows : List Row) (n : ℕ) → refused_rows form n rows ≡ None
      → length (flat_map form (fitting form n rows)) ≤ MAX_DATA_SIZE
  short_rows form rows n r = let a = not_large n (or_parts _ _ (if_none _ _ r)).0 in let f = (front form n rows).fits in omega arith

  -- the answer at a place that has a number
  short_at : (x : Agreement) (node : ℕ) (op : NodeOp) (p : Place) → node_of stack.entries node ≡ Some p → refused_at stack x op p ≡ None
      → length (answer_at stack x op p) ≤ MAX_DATA_SIZE
  short_at x node (lookup name) p e r = found (looked_up stack.entries x.export p name)
    where
      found : (o : Option Place) → length (option_map_or (λ c. entry_out (attr_of stack c)) o negative_entry_out)
          ≤ MAX_DATA_SIZE
      found None = let l = length-negative_entry_out in omega arith
      found (Some c) = let l = length-entry_out (attr_of stack c) in omega arith
  short_at x node getattr p e r = let l = length-attr_out (attr_of stack p) in omega arith
  short_at x node readlink p e r = let l = short_link node p e (is_link _ (by_kind x readlink p r)) in omega arith
  short_at x node (open_file flags) p e r = let l = length-open_out 2 in omega arith
  short_at x node opendir p e r = let l = length-open_out (opendir_flags x.lasting) in omega arith
  short_at x node (read offset n) p e r =
      let a = not_large n (if_none _ _ (by_arguments x (read offset n) p r)) in
      let f = length-front n (drop offset (data_of stack.layers p)) in
      omega arith
  short_at x node (readdir offset n) p e r = short_rows (dirent_of stack) _ n (by_arguments x (readdir offset n) p r)
  short_at x node (readdirplus offset n) p e r = short_rows (direntplus_of stack) _ n (by_arguments x (readdirplus offset n) p r)
  short_at x node (getxattr n name) p e r =
      let l = short_value n name (xattrs_of stack p) (listed.each p) in omega arith
  short_at x node (listxattr n) p e r =
      let l = short_names n (serves_acls stack x) (xattrs_of stack p) (listed.each p) in omega arith

  -- the answer to a request about a node
  short_node : (x : Agreement) (node : ℕ) (op : NodeOp) (o : Option Place) → node_of stack.entries node ≡ o
      → option_map_or (refused_at stack x op) o (Some ESTALE) ≡ None
      → length (option_map_or (answer_at stack x op) o []) ≤ MAX_DATA_SIZE
  short_node x node op None e r = lit≤ tt
  short_node x node op (Some p) e r = short_at x node op p e r

  -- the answer to a request that is not refused
  short_answer : (x : Agreement) (node : ℕ) (op : Op) → refused_by_op stack x node op ≡ None
      → length (answer stack x node op) ≤ MAX_DATA_SIZE
  short_answer x node (init major minor readahead flags) r = let l =
      short_init (cond (nat_lt 7 major) Version (Terms x.lasting (has_acls stack) minor readahead flags)) in omega arith
  short_answer x node (at_node op) r = short_node x node op (node_of stack.entries node) refl r
  short_answer x node statfs r = let l = length-statfs_out (blocks_all stack.layers) (length (nodes stack.entries)) in omega arith
  short_answer x node _ r = lit≤ tt

  -- a reply has at most 1 MiB after a header of 16 bytes
  pub short : (s : Session) (q : Asked) → length (reply stack s q) ≤ MAX_REPLY_SIZE
  short s q = silent (is_silent q.op)
    where
      replied : (o : Option Errno) → refusal stack s q.node q.op ≡ o
          → length (option_map_or (error_reply q.unique) o (reply_with q.unique (answer stack (agreement_of s) q.node q.op)))
          ≤ MAX_REPLY_SIZE
      replied (Some errno) e = let x = length-error_reply q.unique errno in omega arith
      replied None e =
          let a = short_answer (agreement_of s) q.node q.op (not_by_op stack s q.node q.op e) in
          let x = length-reply_with q.unique (answer stack (agreement_of s) q.node q.op) in
          omega arith

      silent : (b : Bool)
          → length (cond b [] (option_map_or (error_reply q.unique) (refusal stack s q.node q.op)
          (reply_with q.unique (answer stack (agreement_of s) q.node q.op))))
          ≤ MAX_REPLY_SIZE
      silent true = lit≤ tt
      silent false = replied (refusal stack s q.node q.op) refl

  -- the length that a reply begins with is its own, if it is not empty
  pub said : (s : Session) (q : Asked) → (reply stack s q ≡ [])
      ⊎ (said_length (reply stack s q) ≡ length (reply stack s q))
  said s q = elim (headed stack s q) [
    | inl e ↦ inl e
    | inr h ↦ inr (let x = short s q in ap said_length h.is ∙ said_header (length (reply stack s q)) h.error q.unique h.rest
        (omega arith))
  ]
