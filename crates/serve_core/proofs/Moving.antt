-- Two stacks that differ only in their layers, and there say the same of each node's place, give and take the same lookups (moves_same).
use Rattle.std.proofs.Common.{◌≡◌, ◌∙◌, ap, ℕ, List, [], Bool, map, Option, Some, None, refl, if◌then◌else◌}
use Rattle.std.specs.Prelude.{is_some, filter}
use Rattle.std.specs.Option.{option_map_or}
use Rattle.stack_model.specs.declared.owner.Owner.{Owner}
use Rattle.romfs_format.specs.declared.attribute_row.AttributeRow.{AttributeRow}
use Rattle.romfs_format.specs.Extended.{Extended}
use Rattle.fuse_wire.specs.Requests.{Asked, NodeOp, Op, lookup, getattr, readlink, open_file, read, opendir, readdir, readdirplus, getxattr, listxattr, at_node, init, statfs, done, silent, modify, other, malformed}
use Rattle.stack_model.specs.Listing.{Entry, Stacked}
use Rattle.stack_model.specs.Numbers.{Place, node_of}
use Rattle.reply_model.specs.declared.session.Agreement.{Agreement}
use Rattle.reply_model.specs.declared.session.Session.{Session}
use Rattle.reply_model.specs.Sessions.{agreement_of}
use Rattle.reply_model.specs.Rows.{is_child, rows_after, direntplus_of}
use Rattle.reply_model.specs.Services.{give}
use Rattle.reply_model.specs.Moves.{gives_at, moved, moves}
use Rattle.reply_model.specs.Refusals.{refusal}
use Rattle.serve_core.proofs.Places.{IsSamePlace}
use Rattle.serve_core.proofs.Nodes.{IsNode, used_node}
use Rattle.serve_core.proofs.Rows.{direntpluses, fitting_forms}
use Rattle.serve_core.proofs.Replied.{refusal_same}

module _ (la lb : List (List ℕ)) (es : List Entry) (rs : List (List AttributeRow)) (ls : List (List (List Extended)))
    (owner : Owner) (wa wb : Bool)
    (same : (p : Place) → IsNode es p → IsSamePlace la lb p) where
  abbrev a : Stacked
  a = record { layers = la; entries = es; rows = rs; lists = ls; owner = owner; whole = wa }

  abbrev b : Stacked
  b = record { layers = lb; entries = es; rows = rs; lists = ls; owner = owner; whole = wb }

  gives_same : (agreed : Agreement) (op : NodeOp) (p : Place) → IsNode es p → gives_at a agreed op p ≡ gives_at b agreed op p
  gives_same agreed (lookup name) p n = refl
  gives_same agreed getattr p n = refl
  gives_same agreed readlink p n = refl
  gives_same agreed (open_file flags) p n = refl
  gives_same agreed (read offset size) p n = refl
  gives_same agreed opendir p n = refl
  gives_same agreed (readdir offset size) p n = refl
  gives_same agreed (getxattr size name) p n = refl
  gives_same agreed (listxattr size) p n = refl
  gives_same agreed (readdirplus offset size) p n =
      ap (λ xs. map (λ r. give a r.1.place) (filter is_child xs))
      (fitting_forms (direntplus_of a) (direntplus_of b) size (rows_after es p offset)
      (direntpluses la lb es rs ls owner wa wb same p offset n))

  given_same : (agreed : Agreement) (op : NodeOp) (o : Option Place) → ((p : Place) → o ≡ Some p → IsNode es p)
      → option_map_or (gives_at a agreed op) o [] ≡ option_map_or (gives_at b agreed op) o []
  given_same agreed op None f = refl
  given_same agreed op (Some p) f = gives_same agreed op p (f p refl)

  moved_same : (agreed : Agreement) (node : ℕ) (op : Op) → moved a agreed node op ≡ moved b agreed node op
  moved_same agreed node (at_node op) = given_same agreed op (node_of es node) (λ p i. used_node es node p i)
  moved_same agreed node (silent op) = refl
  moved_same agreed node (init major minor readahead flags) = refl
  moved_same agreed node statfs = refl
  moved_same agreed node (done op) = refl
  moved_same agreed node modify = refl
  moved_same agreed node other = refl
  moved_same agreed node (malformed opcode) = refl

  pub moves_same : (s : Session) (q : Asked) → moves a s q ≡ moves b s q
  moves_same s q =
      ap (λ o. if is_some o then [] else moved a (agreement_of s) q.node q.op) (refusal_same la lb es rs ls owner wa wb same s q.node q.op)
      ∙ ap (λ ms. if is_some (refusal b s q.node q.op) then [] else ms) (moved_same (agreement_of s) q.node q.op)
