-- What the images say of the places in a stack's tree. The main lemma is rows_placed: each entry's
-- place is in an image of the stack (IsPlaced). The lemmas after it say what follows of one entry:
-- its kind, the size of its offset and its data.
use Rattle.std.proofs.Common.{◌≡◌, ◌≢◌, ◌∙◌, sym, ap, subst, ℕ, ◌^◌, ◌<◌, inl, inr, List, [], ◌∷◌, take, drop, map, refl, arith, Option, Some, None, IsSome}
use Rattle.std.specs.Prelude.{slice_get, unwrap_or}
use Rattle.std.specs.List.{AllByRecursion, slice_index_or}
use Rattle.std.specs.Option.{option_map_or}
use Rattle.std.specs.Cmp.Lexicographic.{slice_cmp}
use Rattle.std.specs.declared.cmp.Ordering.TheVariants.{Less}
use Rattle.std.specs.declared.cmp.Ordering.TheVariants.{Greater}
use Rattle.std.specs.Ordering.{ordering_reverse}
use Rattle.std.proofs.lemmas.Cmp.{nat_list_cmp_total, lists_total}
use Rattle.std.proofs.lemmas.Option.{get_or_from_slice_get}
use Rattle.romfs_format.specs.declared.head.Kind.{Kind}
use Rattle.romfs_format.specs.declared.head.Kind.TheVariants.{HardLink, Directory, Regular, SymLink, Block, Character, Socket, Fifo}
use Rattle.romfs_format.specs.Fields.{root, kind, name, size, data_at}
use Rattle.romfs_format.specs.Chains.{Has}
use Rattle.romfs_format.specs.Links.{IsFinal, stays, follows}
use Rattle.romfs_format.specs.Heads.{name_of, head_of}
use Rattle.romfs_reader.specs.Images.{IsImage}
use Rattle.romfs_reader.specs.Readers.{bytes_at, data_of_header as data_in, data_of_kind, IsGiven}
use Rattle.romfs_reader.proofs.Keeps.{root_directory}
use Rattle.romfs_reader.proofs.Given.{From, from_inside, from_named}
use Rattle.stack_model.specs.Stack.{Path}
use Rattle.stack_model.specs.Listing.{IsAmong}
use Rattle.stack_model.specs.Attributes.{kind_at, size_of, data_of}
use Rattle.stack_model.proofs.Listings.{led_to}
use Rattle.layer_paths.specs.Rows.{Rows, at_path, PathsRise, name_cmp}
use Rattle.layer_paths.proofs.Paths.{same_path_or_not}
use Rattle.layer_paths.specs.declared.entries.Entry.{Entry}
use Rattle.layer_paths.specs.Trees.{TreeRows, IsTreeOf, IsReadIn, listed, listing}
use Rattle.romfs_reader.proofs.Paths.{leads_to}
use Rattle.layer_paths.proofs.Listed.{is_listing, kind_read}
use Rattle.node_reader.specs.Readers.{placed}
use Rattle.layer_paths.proofs.Lists.{all_get}

-- an entry's place is in an image of the stack, which gives its header, and the entry says what that
-- header says
pub record IsPlaced (layers : List (List ℕ)) (e : Entry) : Type 0 where
  pub image : List ℕ
  pub is : slice_get layers e.place.layer ≡ Some image
  pub sound : IsImage image
  pub given : IsGiven image (head_of image e.place.header)
  pub is_read : IsReadIn image e

given_at : (a : List ℕ) (i : IsImage a) (path : Path) (h e : ℕ) → Has a path h → IsFinal a h e → IsGiven a (head_of a e)
given_at a i path h e l f = record {
  is = refl;
  from = elim (leads_to a path (root a) h l) [ inl r ↦ at_root h e r f | inr m ↦ inr (inr (h, m, f)) ];
}
  where
    at_root : (h e : ℕ) → root a ≡ h → IsFinal a h e → From a e
    at_root h e r (stays n) = inl (sym r)
    at_root h e r (follows l g) = absurd (let k : kind a h ≡ Directory = subst (λ x. kind a x ≡ Directory) r (root_directory a i) in let m =
        l.1 in cc)

not_before_itself : (p : Path) → slice_cmp name_cmp p p ≡ Less → ⊥
not_before_itself p e = let s = (lists_total nat_list_cmp_total).antisymm p p in let r : Less ≡ Greater = sym e ∙ s
    ∙ ap ordering_reverse e in cc

-- in rising rows each row is found at its path
abbrev AreAt : Rows Entry → Rows Entry → Type 0
AreAt all rows = AllByRecursion (λ (r : Path × Entry). at_path all r.0 ≡ Some r.1) rows

own_at : (rows : Rows Entry) → PathsRise rows → AreAt rows rows
own_at [] r = tt
own_at (x ∷ rows) r = (first x.0, more rows rows r.0 (own_at rows r.1))
  where
    first : (p : Path) → at_path ((p, x.1) ∷ rows) p ≡ Some x.1
    first p = elim (same_path_or_not p p) [ inl s ↦ rw s.1 refl | inr s ↦ absurd (s.0 refl) ]

    more : (all ys : Rows Entry) → AllByRecursion (λ (y : Path × Entry). slice_cmp name_cmp x.0 y.0 ≡ Less) ys → AreAt all ys
        → AreAt (x ∷ all) ys
    more all [] l a = tt
    more all (y ∷ ys) l a = (
      elim (same_path_or_not x.0 y.0) [
        | inl s ↦ absurd (not_before_itself x.0 (subst (λ p. slice_cmp name_cmp x.0 p ≡ Less) (sym s.0) l.0))
        | inr s ↦ rw s.1 a.0
      ],
      more all ys l.1 a.1,
    )

among_listed : (rows : Rows Entry) (P : Path × Entry → Type 0) → ((r : Path × Entry) → IsAmong (listed r) (map listed rows) → P r)
    → (all : Rows Entry) → ((r : Path × Entry) → IsAmong (listed r) (map listed all) → IsAmong (listed r) (map listed rows))
    → AllByRecursion P all
among_listed rows P f [] g = tt
among_listed rows P f (x ∷ all) g = (f x (g x (inl refl)), among_listed rows P f all (λ r a. g r (inr a)))

both : {X : Type 0} (P Q R : X → Type 0) → ((x : X) → P x → Q x → R x) → (xs : List X) → AllByRecursion P xs → AllByRecursion Q xs
    → AllByRecursion R xs
both P Q R f [] a b = tt
both P Q R f (x ∷ xs) a b = (f x a.0 b.0, both P Q R f xs a.1 b.1)

-- each row's entry is placed
pub rows_placed : (layers : List (List ℕ)) (t : TreeRows) → IsTreeOf 0 layers t → AllByRecursion IsImage layers
    → AllByRecursion (λ (r : Path × Entry). IsPlaced layers r.1) t.entries
rows_placed layers t is sound = both (λ (r : Path × Entry). at_path t.entries r.0 ≡ Some r.1) (λ (r : Path × Entry).
    IsAmong (listed r) (listing t)) (λ (r : Path × Entry). IsPlaced layers r.1) one t.entries (own_at t.entries is.rising)
    (among_listed t.entries (λ r. IsAmong (listed r) (listing t)) (λ r a. a) t.entries (λ r a. a))
  where
    one : (r : Path × Entry) → at_path t.entries r.0 ≡ Some r.1 → IsAmong (listed r) (listing t) → IsPlaced layers r.1
    one r at among =
        let o = is.only r.0 r.1 at in
        let w = o.3 in
        let i : o.0 ≡ r.1.place.layer = omega (arith, w.layer) in
        let l = led_to layers (listing t) (listed r) (is_listing layers t is) among in
        let here : slice_get layers r.1.place.layer ≡ Some w.end.0 = subst (λ k. slice_get layers k ≡ Some w.end.0) i w.end.1 in
        let z : Some l.bytes ≡ Some w.end.0 = sym l.is ∙ here in
        let b : l.bytes ≡ w.end.0 = cc in
        let s = all_get IsImage layers r.1.place.layer l.bytes sound l.is in
        record {
          image = l.bytes;
          is = l.is;
          sound = s;
          given = given_at l.bytes s l.path l.first r.1.place.header l.has l.ends;
          is_read = subst (λ x. IsReadIn x r.1) (sym b) w.end.3;
        }

-- the data of a header, as the listing's definitions have them
abbrev data_by : List ℕ → ℕ → List ℕ
data_by a h = take (size_of (kind a h) (size a h)) (drop (option_map_or (data_at h) (name a h) 0) a)

same_data : (a : List ℕ) (h : ℕ) → IsImage a → From a h → data_in a h ≡ data_by a h
unfolding bytes_at
same_data a h i f = go (kind a h) refl
  where
    none : (xs : List ℕ) → [] ≡ take 0 xs
    none [] = refl
    none (x ∷ xs) = refl

    named : (o : Option (List ℕ)) → IsSome o → data_at h (unwrap_or o []) ≡ option_map_or (data_at h) o 0
    named None s = absurd (cc)
    named (Some n) s = refl

    apart : (k : Kind) → kind a h ≡ k → (k ≡ Directory → ⊥) → h ≢ root a
    apart k e n q = n (sym e ∙ subst (λ x. kind a x ≡ Directory) (sym q) (root_directory a i))

    has_data : (k : Kind) → kind a h ≡ k → (k ≡ Directory → ⊥) → take (size a h) (drop (data_at h (name_of a h)) a)
        ≡ take (size a h) (drop (option_map_or (data_at h) (name a h) 0) a)
    has_data k e n = ap (λ d. take (size a h) (drop d a)) (named (name a h) (from_named a i h f (apart k e n)))

    go : (k : Kind) → kind a h ≡ k → data_of_kind k a h ≡ take (size_of k (size a h)) (drop (option_map_or (data_at h) (name a h) 0) a)
    go Regular e = has_data Regular e (λ q. cc)
    go SymLink e = has_data SymLink e (λ q. cc)
    go HardLink e = none (drop (option_map_or (data_at h) (name a h) 0) a)
    go Directory e = none (drop (option_map_or (data_at h) (name a h) 0) a)
    go Block e = none (drop (option_map_or (data_at h) (name a h) 0) a)
    go Character e = none (drop (option_map_or (data_at h) (name a h) 0) a)
    go Socket e = none (drop (option_map_or (data_at h) (name a h) 0) a)
    go Fifo e = none (drop (option_map_or (data_at h) (name a h) 0) a)

module _ (layers : List (List ℕ)) (e : Entry) (p : IsPlaced layers e) where
  layer_is : slice_index_or layers e.place.layer [] ≡ p.image
  layer_is = get_or_from_slice_get layers e.place.layer p.image [] p.is

  -- a placed entry's kind is what the layers have at its place
  pub kind_placed : e.kind ≡ kind_at layers (placed e.place)
  kind_placed = kind_read p.image e p.is_read ∙ ap (λ x. kind x e.place.header) (sym layer_is)

  -- the offset of a placed entry's header fits in 32 bits
  pub header_small : e.place.header < 2 ^ 32
  header_small =
      let inside = (from_inside p.image p.sound e.place.header p.given.from).1 in
      let small = p.sound.small in
      omega arith

  -- the data that the image gives for a placed entry are those of the layers at its place
  pub data_placed : data_in p.image e.place.header ≡ data_of layers (placed e.place)
  unfolding data_of
  data_placed = subst (λ x. data_in p.image e.place.header ≡ data_by x e.place.header) (sym layer_is)
      (same_data p.image e.place.header p.sound p.given.from)
