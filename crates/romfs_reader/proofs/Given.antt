-- What holds of the headers that a sound image gives. Each is reached, so it lies in the image at a
-- place for headers, and its name is ended unless it is the root's. A walk along hard links from
-- one (`IsOnWay`) sets out, moves on, and ends at a header that is given as well (`arrived`).
use Rattle.std.proofs.Common.{◌≡◌, ◌≢◌, ◌∙◌, sym, ap, subst, ℕ, ◌*◌, ◌/◌, ◌<◌, ◌⊎◌, inl, inr, List, Option, Some, None, arith, refl, IsSome}
use Rattle.std.specs.Option.{option_map_or}
use Rattle.romfs_format.specs.declared.head.Kind.TheVariants.{HardLink, Directory}
use Rattle.romfs_format.specs.declared.head.Head.{Head}
use Rattle.romfs_format.specs.Fields.{root, IsInside, kind, name, text_at, text_end}
use Rattle.romfs_format.specs.Chains.{IsOpened, at_root, below, IsMember, IsSomeMember}
use Rattle.romfs_format.specs.Links.{IsHardLink, destination, IsDestination, here, there, IsFinal, stays, follows, IsTarget, IsReached}
use Rattle.romfs_format.proofs.Targets.{final_target, destination_link}
use Rattle.romfs_reader.specs.Images.{IsImage}
use Rattle.romfs_format.specs.Heads.{head_of}
use Rattle.romfs_reader.specs.Readers.{IsEnd, IsGiven}
use Rattle.romfs_reader.proofs.Chain.{aligned}
use Rattle.romfs_reader.proofs.Keeps.{root_directory, reached_inside, reached_named, member_reached, not_directory, not_loop}
use Rattle.romfs_reader.specs.Walks.{places}
use Rattle.romfs_reader.proofs.Hops.{is_hard, LeavesWithin, leaves, left_already, hops, count}

-- the header at h is given: it is the root's, a member, or the end of the hard links of a member
abbrev pub From : List ℕ → ℕ → Type 0
From a h = (h ≡ root a) ⊎ IsSomeMember a h ⊎ IsEnd a h

destination_aligned : (a : List ℕ) {h g : ℕ} → IsDestination a h g → g ≡ g / 16 * 16
destination_aligned a (here {h = h} l) = (let e : destination a h ≡ destination a h = refl in omega arith)
destination_aligned a (there l d) = destination_aligned a d

-- the offset of the root's header is a multiple of 16
pub root_aligned : (a : List ℕ) → root a ≡ root a / 16 * 16
unfolding root
root_aligned a = ends (text_at a 16)
  where
    ends : (o : Option (List ℕ)) → option_map_or (text_end 16) o 0 ≡ option_map_or (text_end 16) o 0 / 16 * 16
    ends None = refl
    ends (Some t) = omega arith

module _ (a : List ℕ) (i : IsImage a) where
  -- a header that is given is the root's, a member, or on the destination chain of a member
  pub used : (h : ℕ) → From a h → (h ≡ root a) ⊎ IsSomeMember a h ⊎ IsTarget a h
  used h (inl e) = inl e
  used h (inr (inl m)) = inr (inl m)
  used h (inr (inr x)) = elim (final_target a x.2) [
    | inl e ↦ inr (inl (x.1.0, subst (λ y. IsMember a x.1.0 y) (sym e) x.1.1))
    | inr d ↦ inr (inr (x.1.0, x.0, x.1.1, d))
  ]

  -- a header that is given is one of those that the image leads to
  pub from_reached : (h : ℕ) → From a h → IsReached a h
  from_reached h f = elim (used h f) [
    | inl e ↦ inl e
    | inr (inl m) ↦ member_reached a i h m
    | inr (inr t) ↦ inr (inr t)
  ]

  -- a header that is given lies in the image
  pub from_inside : (h : ℕ) → From a h → IsInside a h
  from_inside h f = reached_inside a i h (from_reached h f)

  -- the name of a header that is given is ended, unless it is the root's
  pub from_named : (h : ℕ) → From a h → h ≢ root a → IsSome (name a h)
  from_named h f n = reached_named a i h (from_reached h f) n

  -- the offset of a header that is given is a multiple of 16
  pub from_aligned : (h : ℕ) → From a h → h ≡ h / 16 * 16
  from_aligned h f = elim (used h f) [
    | inl e ↦ (let r = root_aligned a in omega arith)
    | inr (inl m) ↦ aligned a m.0 m.1.in_chain.0 h m.1.in_chain.1
    | inr (inr t) ↦ destination_aligned a t.3
  ]

  member_opened : (h : ℕ) → IsSomeMember a h → kind a h ≡ Directory → IsOpened a h
  member_opened h m k = below m.1.opened m.1.in_chain m.1.kept (reached_inside a i h (member_reached a i h m)) k

  -- a directory that is given is opened
  pub from_opened : (h : ℕ) → From a h → kind a h ≡ Directory → IsOpened a h
  from_opened h (inl e) k = at_root e
  from_opened h (inr (inl m)) k = member_opened h m k
  from_opened h (inr (inr x)) k = elim (final_target a x.2) [
    | inl e ↦ member_opened h (x.1.0, subst (λ y. IsMember a x.1.0 y) (sym e) x.1.1) k
    | inr d ↦ absurd (not_directory a i x.0 (
      x.1,
      destination_link a d,
      (h, x.2, (reached_inside a i h (inr (inr (x.1.0, x.0, x.1.1, d))), k)),
    ))
  ]

final_soft : (a : List ℕ) {h e : ℕ} → IsFinal a h e → ¬ IsHardLink a e
final_soft a (stays n) = n
final_soft a (follows l f) = final_soft a f

-- a walk along hard links from `head`, which is given, has come to the header `end`
pub record IsOnWay (a : List ℕ) (head end : Head) : Type 0 where
  pub is : end ≡ head_of a end.offset
  pub inside : IsInside a end.offset
  pub leaves : LeavesWithin a (places a) end.offset
  pub on : (e : ℕ) → IsFinal a end.offset e → IsFinal a head.offset e
  pub reached : (end.offset ≡ head.offset) ⊎ IsDestination a head.offset end.offset

destination_more : (a : List ℕ) {h g : ℕ} → IsDestination a h g → IsHardLink a g → IsDestination a h (destination a g)
destination_more a (here l) m = there l (here m)
destination_more a (there l d) m = there l (destination_more a d m)

module _ (a : List ℕ) (i : IsImage a) where
  -- a hard link that is given is a member
  pub hard_member : (h : ℕ) → From a h → IsHardLink a h → IsSomeMember a h
  hard_member h (inl e) l = absurd (let k : kind a h ≡ Directory = subst (λ x. kind a x ≡ Directory) (sym e) (root_directory a i) in let m =
      l.1 in cc)
  hard_member h (inr (inl m)) l = m
  hard_member h (inr (inr x)) l = absurd (final_soft a x.2 l)

  -- a walk that has made no step is on the way, at the header that it began with
  pub sets_out : (head : Head) → IsGiven a head → IsOnWay a head head
  sets_out head g = record {
    is = g.is;
    inside = from_inside a i head.offset g.from;
    leaves = elim (is_hard a head.offset) [
      | inl l ↦ leaves a head.offset (from_aligned a i head.offset g.from) (λ n. not_loop a i head.offset (
        hard_member head.offset g.from l,
        l,
        n,
      ))
      | inr m ↦ left_already a (places a) head.offset m
    ];
    on = λ e f. f;
    reached = inl refl;
  }

  -- if the kind that was read is a hard link's, the header on the way is a hard link of the image
  pub hard : (head end : Head) → IsOnWay a head end → end.kind ≡ HardLink → IsHardLink a end.offset
  hard head end w k = (w.inside, sym (ap (λ x. x.kind) w.is) ∙ k)

  target_of : (head end : Head) → IsGiven a head → IsOnWay a head end → end.kind ≡ HardLink → IsTarget a (destination a end.offset)
  target_of head end g w k = elim w.reached [
    | inl e ↦ (let l = subst (λ x. IsHardLink a x) e (hard head end w k) in
        let m = hard_member head.offset g.from l in
        (m.0, head.offset, m.1, subst (λ x. IsDestination a head.offset (destination a x)) (sym e) (here l)))
    | inr d ↦ (let m = hard_member head.offset g.from (destination_link a d) in
        (m.0, head.offset, m.1, destination_more a d (hard head end w k)))
  ]

  -- what a hard link on the way leads to lies in the image
  pub next_inside : (head end : Head) → IsGiven a head → IsOnWay a head end → end.kind ≡ HardLink → IsInside a (destination a end.offset)
  next_inside head end g w k = reached_inside a i _ (inr (inr (target_of head end g w k)))

  -- from a hard link on the way the walk comes to the header that it leads to
  pub moves_on : (head end after : Head) → IsGiven a head → IsOnWay a head end → end.kind ≡ HardLink
      → after ≡ head_of a (destination a end.offset) → IsOnWay a head after
  moves_on head end after g w k e =
      let l = hard head end w k in
      let o : after.offset ≡ destination a end.offset = ap (λ x. x.offset) e in
      subst (λ x. IsOnWay a head x) (sym e) (record {
        is = refl;
        inside = next_inside head end g w k;
        leaves = (hops a (places a) end.offset l w.leaves).0;
        on = λ x f. w.on x (follows l f);
        reached = inr (elim w.reached [
          | inl q ↦ subst (λ x. IsDestination a head.offset (destination a x)) (sym q) (here (subst (λ x. IsHardLink a x) q l))
          | inr d ↦ destination_more a d l
        ]);
      })

  -- a step along a hard link leaves fewer steps to go
  pub way_falls : (head end after : Head) → IsOnWay a head end → end.kind ≡ HardLink
      → after ≡ head_of a (destination a end.offset)
      → count a (places a) after.offset < count a (places a) end.offset
  way_falls head end after w k e = subst (λ x. count a (places a) x.offset < count a (places a) end.offset)
      (sym e) (hops a (places a) end.offset (hard head end w k) w.leaves).1

  -- a header on the way that is not a hard link is where the hard links from the first one end
  pub arrives : (head end : Head) → IsOnWay a head end → end.kind ≢ HardLink → IsFinal a head.offset end.offset
  arrives head end w n = w.on end.offset (stays (λ l. n (ap (λ x. x.kind) w.is ∙ l.1)))

  -- a header on the way that is not a hard link is given by the image
  pub arrived : (head end : Head) → IsGiven a head → IsOnWay a head end → end.kind ≢ HardLink → IsGiven a end
  arrived head end g w n = record {
    is = w.is;
    from = elim w.reached [
      | inl e ↦ subst (λ x. From a x) (sym e) g.from
      | inr d ↦ inr (inr (head.offset, hard_member head.offset g.from (destination_link a d), arrives head end w n))
    ];
  }
