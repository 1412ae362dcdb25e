-- Two stacks that differ only in their layers, and there say the same about each node's place, refuse the same requests (refusal_same), and
-- answer the same except for the data of a READ (answer_same).
use Rattle.std.proofs.Common.{◌≡◌, ◌∙◌, ap, ℕ, List, [], ◌∷◌, ◌||◌, Bool, cond, Option, Some, None, refl}
use Rattle.std.specs.Prelude.{⊤}
use Rattle.std.specs.Option.{option_map_or}
use Rattle.stack_model.specs.declared.owner.Owner.{Owner}
use Rattle.romfs_format.specs.declared.head.Kind.{Kind}
use Rattle.romfs_format.specs.declared.head.Kind.TheVariants.{HardLink, Directory, Regular, SymLink, Block, Character, Socket, Fifo}
use Rattle.romfs_format.specs.declared.attribute_row.AttributeRow.{AttributeRow}
use Rattle.romfs_format.specs.Extended.{Extended}
use Rattle.fuse_wire.specs.declared.errno.Errno.TheVariants.{EINVAL, ENOSYS, ESTALE}
use Rattle.fuse_wire.specs.Requests.{NodeOp, Op, lookup, getattr, readlink, open_file, read, opendir, readdir, readdirplus, getxattr, listxattr, at_node, init, statfs, done, silent, modify, other, malformed}
use Rattle.fuse_wire.specs.Structures.{entry_out, negative_entry_out, attr_out}
use Rattle.stack_model.specs.Listing.{Entry, Stacked}
use Rattle.stack_model.specs.Numbers.{Place, node_of}
use Rattle.stack_model.specs.Attributes.{kind_at, attr_of}
use Rattle.reply_model.specs.declared.session.Agreement.{Agreement}
use Rattle.reply_model.specs.declared.session.Session.{Session}
use Rattle.reply_model.specs.Lookups.{looked_up}
use Rattle.reply_model.specs.Rows.{rows_after, dirent_of, direntplus_of}
use Rattle.reply_model.specs.Services.{service, refuse_if, is_too_large, unless_link}
use Rattle.reply_model.specs.Sessions.{is_fresh, agreement_of}
use Rattle.reply_model.specs.Refusals.{first_refusal, is_unserved, refused_at, refused_by_itself, refused_by_op, refusal, refused_by_session}
use Rattle.reply_model.specs.Replies.{answer_at}
use Rattle.serve_core.proofs.Places.{IsSamePlace}
use Rattle.serve_core.proofs.Nodes.{IsNode, used_node, looked_node}
use Rattle.serve_core.proofs.Rows.{attr_same, small_forms, dirents, direntpluses, listed_same}

-- no data are read for it
abbrev pub IsNoRead : NodeOp → Type 0
IsNoRead (read offset size) = ⊥
IsNoRead (lookup name) = ⊤
IsNoRead getattr = ⊤
IsNoRead readlink = ⊤
IsNoRead (open_file flags) = ⊤
IsNoRead opendir = ⊤
IsNoRead (readdir offset size) = ⊤
IsNoRead (readdirplus offset size) = ⊤
IsNoRead (getxattr size name) = ⊤
IsNoRead (listxattr size) = ⊤

module _ (la lb : List (List ℕ)) (es : List Entry) (rs : List (List AttributeRow)) (ls : List (List (List Extended)))
    (owner : Owner) (wa wb : Bool)
    (same : (p : Place) → IsNode es p → IsSamePlace la lb p) where
  abbrev a : Stacked
  a = record { layers = la; entries = es; rows = rs; lists = ls; owner = owner; whole = wa }

  abbrev b : Stacked
  b = record { layers = lb; entries = es; rows = rs; lists = ls; owner = owner; whole = wb }

  arguments_same : (agreed : Agreement) (op : NodeOp) (p : Place) → IsNode es p
      → (service a agreed op).by_arguments p ≡ (service b agreed op).by_arguments p
  arguments_same agreed (lookup name) p n = refl
  arguments_same agreed getattr p n = refl
  arguments_same agreed readlink p n = refl
  arguments_same agreed (open_file flags) p n = refl
  arguments_same agreed (read offset size) p n = refl
  arguments_same agreed opendir p n = refl
  arguments_same agreed (readdir offset size) p n =
      ap (λ t. refuse_if (is_too_large size || t) EINVAL)
      (small_forms (dirent_of a) (dirent_of b) size (rows_after es p offset) (dirents la lb es rs ls owner wa wb same p offset n))
  arguments_same agreed (getxattr size name) p n = refl
  arguments_same agreed (listxattr size) p n = refl
  arguments_same agreed (readdirplus offset size) p n =
      ap (λ t. refuse_if (is_too_large size || t) EINVAL)
      (small_forms (direntplus_of a) (direntplus_of b) size (rows_after es p offset) (direntpluses la lb es rs ls owner wa wb same
      p offset n))

  kinds_same : (agreed : Agreement) (op : NodeOp) → (service a agreed op).by_kind ≡ (service b agreed op).by_kind
  kinds_same agreed (lookup name) = refl
  kinds_same agreed getattr = refl
  kinds_same agreed readlink = refl
  kinds_same agreed (open_file flags) = refl
  kinds_same agreed (read offset size) = refl
  kinds_same agreed opendir = refl
  kinds_same agreed (readdir offset size) = refl
  kinds_same agreed (readdirplus offset size) = refl
  kinds_same agreed (getxattr size name) = refl
  kinds_same agreed (listxattr size) = refl

  refused_same : (agreed : Agreement) (op : NodeOp) (p : Place) → IsNode es p → refused_at a agreed op p ≡ refused_at b agreed op p
  refused_same agreed op p n =
      ap (λ f. first_refusal (f (kind_at la p) ∷ (service a agreed op).by_arguments p ∷ [])) (kinds_same agreed op)
      ∙ ap (λ k. first_refusal ((service b agreed op).by_kind k ∷ (service a agreed op).by_arguments p ∷ [])) ((same p n).kinds)
      ∙ ap (λ x. first_refusal ((service b agreed op).by_kind (kind_at lb p) ∷ x ∷ [])) (arguments_same agreed op p n)

  at_node_same : (agreed : Agreement) (op : NodeOp) (node : ℕ) (o : Option Place) → node_of es node ≡ o
      → option_map_or (refused_at a agreed op) o (Some ESTALE) ≡ option_map_or (refused_at b agreed op) o (Some ESTALE)
  at_node_same agreed op node None i = refl
  at_node_same agreed op node (Some p) i = refused_same agreed op p (used_node es node p i)

  by_op_same : (agreed : Agreement) (node : ℕ) (op : Op) → refused_by_op a agreed node op ≡ refused_by_op b agreed node op
  by_op_same agreed node (at_node op) = at_node_same agreed op node (node_of es node) refl
  by_op_same agreed node modify = refl
  by_op_same agreed node other = refl
  by_op_same agreed node (malformed opcode) = refl
  by_op_same agreed node (init major minor readahead flags) = refl
  by_op_same agreed node statfs = refl
  by_op_same agreed node (done op) = refl
  by_op_same agreed node (silent op) = refl

  itself_same : (agreed : Agreement) (node : ℕ) (op : Op) → refused_by_itself a agreed node op ≡ refused_by_itself b agreed node op
  itself_same agreed node op = ap (λ o. cond (is_unserved b op) (Some ENOSYS) o) (by_op_same agreed node op)

  pub refusal_same : (s : Session) (node : ℕ) (op : Op) → refusal a s node op ≡ refusal b s node op
  refusal_same s node op =
      ap (λ x. first_refusal (refused_by_session (is_fresh s) op ∷ x ∷ [])) (itself_same (agreement_of s) node op)

  looked_same : (o : Option Place) → ((c : Place) → o ≡ Some c → IsNode es c)
      → option_map_or (λ c. entry_out (attr_of a c)) o negative_entry_out
      ≡ option_map_or (λ c. entry_out (attr_of b c)) o negative_entry_out
  looked_same None f = refl
  looked_same (Some c) f = ap entry_out (attr_same la lb es rs ls owner wa wb same c (f c refl))

  -- what a link that is not refused is answered
  answer_at_same : (agreed : Agreement) (op : NodeOp) (p : Place) → IsNode es p → IsNoRead op → refused_at b agreed op p ≡ None
      → answer_at a agreed op p ≡ answer_at b agreed op p
  answer_at_same agreed (lookup name) p n y z =
      looked_same (looked_up es agreed.export p name) (λ c i. looked_node es agreed.export p name c n i)
  answer_at_same agreed getattr p n y z = ap attr_out (attr_same la lb es rs ls owner wa wb same p n)
  answer_at_same agreed readlink p n y z = (same p n).targets ((same p n).kinds ∙ linked (kind_at lb p) z)
    where
      linked : (k : Kind) → first_refusal (unless_link k ∷ None ∷ []) ≡ None → k ≡ SymLink
      linked SymLink i = refl
      linked HardLink i = absurd (cc)
      linked Directory i = absurd (cc)
      linked Regular i = absurd (cc)
      linked Block i = absurd (cc)
      linked Character i = absurd (cc)
      linked Socket i = absurd (cc)
      linked Fifo i = absurd (cc)
  answer_at_same agreed (open_file flags) p n y z = refl
  answer_at_same agreed (read offset size) p n y z = absurd y
  answer_at_same agreed opendir p n y z = refl
  answer_at_same agreed (readdir offset size) p n y z =
      listed_same (dirent_of a) (dirent_of b) es p offset size (dirents la lb es rs ls owner wa wb same p offset n)
  answer_at_same agreed (getxattr size name) p n y z = refl
  answer_at_same agreed (listxattr size) p n y z = refl
  answer_at_same agreed (readdirplus offset size) p n y z =
      listed_same (direntplus_of a) (direntplus_of b) es p offset size (direntpluses la lb es rs ls owner wa wb same p offset n)

  pub node_answer_same : (agreed : Agreement) (op : NodeOp) (o : Option Place) → ((p : Place) → o ≡ Some p → IsNode es p) → IsNoRead op
      → option_map_or (refused_at b agreed op) o (Some ESTALE) ≡ None
      → option_map_or (answer_at a agreed op) o [] ≡ option_map_or (answer_at b agreed op) o []
  node_answer_same agreed op None f y z = refl
  node_answer_same agreed op (Some p) f y z = answer_at_same agreed op p (f p refl) y z
