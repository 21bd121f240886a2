-- What becomes of blocks where a number is put among theirs, or taken out.
use Rattle.std.proofs.Common.{◌≡◌, ℕ, zero, suc, ◌+◌, ◌<◌, ◌≤◌, List, [], ◌∷◌, ◌++◌, length, take, drop, set, get_or, Some, refl, sym, ap, subst, ◌∙◌, arith, add-one, length-append, length-drop, append_assoc, append-nil}
use Rattle.std.specs.Prelude.{insert, remove, slice_get, slice_index}
use Rattle.std.proofs.lemmas.List.{take_at, drop_at, take_all, take-append-drop, length-take-le, set_split, get_or_read, get_or-set_same, get_or-append-add, get_or_append_left, drop_all}
use Rattle.std.proofs.lemmas.List.Edits.{length-insert, length-remove, insert_end}
use Rattle.std.proofs.lemmas.Option.{slice_get-get_or}
use Rattle.block_list.specs.Layouts.{flat, room, AreShaped}
use Rattle.block_list.specs.Joining.{joined, weight, Becomes}
use Rattle.block_list.specs.Spots.{block_at}
use Rattle.block_list.proofs.Joined.{parts, flat-append, flat_put, flat_taken, flat-joined, shaped_front, shaped_behind, shaped_joined, shaped_put, shaped_next}
use Rattle.block_list.proofs.Weights.{weight_behind, weight-joined, some_joined, weight_put, weight_taken, weight_split, weight_next, spare_where_none, spare_where_full}

-- ---- in the middle: a front, a block and what is behind

pub there_front : (bs : List (List ℕ)) (i : ℕ) → i < length bs → length (take i bs) ≡ i
there_front bs i lt = length-take-le i bs (omega (arith, lt))

set_parts : (bs : List (List ℕ)) (i : ℕ) (m : List ℕ) → i < length bs → set bs i m ≡ take i bs ++ m ∷ drop (i + 1) bs
set_parts bs i m lt = set_split bs i m lt ∙ ap (λ (n : ℕ). take i bs ++ m ∷ drop n bs) (sym (add-one i))

-- a number put into a block that has room
put_within : (F : List (List ℕ)) (b : List ℕ) (B : List (List ℕ)) (at number : ℕ) → AreShaped (F ++ b ∷ B) → at ≤ length b → length b < 255
    → Becomes (F ++ b ∷ B) (F ++ insert b at number ∷ B) (insert (flat (F ++ b ∷ B)) (length (flat F) + at) number) 1
put_within F b B at number shaped le few =
    let e : length (insert b at number) ≡ length b + 1 = length-insert b at number le in
    record {
      numbers_are = flat_put F b B at number le;
      shaped = shaped_put F b (insert b at number) B e (omega (arith, e, few)) shaped;
      weight_is = weight_behind F (b ∷ B) (insert b at number ∷ B) 1 (omega arith) (omega arith) (weight_put b (insert b at number) B e);
    }

-- by parts, and again whole
module _ (bs : List (List ℕ)) (i : ℕ) (lt : i < length bs) where
  whole_is : bs ≡ take i bs ++ block_at bs i ∷ drop (i + 1) bs
  whole_is = parts bs i lt

  shaped_parts : AreShaped bs → AreShaped (take i bs ++ block_at bs i ∷ drop (i + 1) bs)
  shaped_parts s = subst AreShaped whole_is s

  pub becomes_whole : (ys : List (List ℕ)) (change : List ℕ → List ℕ) (more : ℕ)
      → Becomes (take i bs ++ block_at bs i ∷ drop (i + 1) bs) ys (change (flat (take i bs ++ block_at bs i ∷ drop (i + 1) bs))) more → Becomes bs ys (change (flat bs)) more
  becomes_whole ys change more h = subst (λ (xs : List (List ℕ)). Becomes xs ys (change (flat xs)) more) (sym whole_is) h

pub becomes_put : (bs : List (List ℕ)) (i at number : ℕ) (b m : List ℕ) → AreShaped bs → i < length bs → b ≡ get_or bs i b → m ≡ insert b at number → at ≤ length (block_at bs i) → length (block_at bs i) < 255
    → Becomes bs (set bs i m) (insert (flat bs) (length (flat (take i bs)) + at) number) 1
becomes_put bs i at number b m shaped lt read put le few =
    let e : b ≡ block_at bs i = get_or_read bs i b lt read [] in
    let f : set bs i m ≡ take i bs ++ insert (block_at bs i) at number ∷ drop (i + 1) bs =
    ap (λ (x : List ℕ). set bs i x) (put ∙ ap (λ (x : List ℕ). insert x at number) e) ∙ set_parts bs i (insert (block_at bs i) at number) lt in
    subst (λ (ys : List (List ℕ)). Becomes bs ys (insert (flat bs) (length (flat (take i bs)) + at) number) 1) (sym f)
    (becomes_whole bs i lt (take i bs ++ insert (block_at bs i) at number ∷ drop (i + 1) bs) (λ all. insert all (length (flat (take i bs)) + at) number) 1
    (put_within (take i bs) (block_at bs i) (drop (i + 1) bs) at number (shaped_parts bs i lt shaped) le few))

-- ---- joined on both sides

join_parts : (F M B : List (List ℕ)) (i j : ℕ) → length F ≡ i → length (F ++ M) ≡ j + 1
    → joined (take i (F ++ (M ++ B))) (joined (drop i (take (j + 1) (F ++ (M ++ B)))) (drop (j + 1) (F ++ (M ++ B)))) ≡ joined F (joined M B)
join_parts F M B i j f m =
    let g : take i (F ++ (M ++ B)) ≡ F = take_at F (M ++ B) i f in
    let whole : F ++ (M ++ B) ≡ (F ++ M) ++ B = sym (append_assoc F M B) in
    let up : take (j + 1) (F ++ (M ++ B)) ≡ F ++ M = ap (λ (xs : List (List ℕ)). take (j + 1) xs) whole ∙ take_at (F ++ M) B (j + 1) m in
    let back : drop (j + 1) (F ++ (M ++ B)) ≡ B = ap (λ (xs : List (List ℕ)). drop (j + 1) xs) whole ∙ drop_at (F ++ M) B (j + 1) m in
    let mid : drop i (take (j + 1) (F ++ (M ++ B))) ≡ M = ap (λ (xs : List (List ℕ)). drop i xs) up ∙ drop_at F M i f in
    ap (λ (x : List (List ℕ)). joined x (joined (drop i (take (j + 1) (F ++ (M ++ B)))) (drop (j + 1) (F ++ (M ++ B))))) g
    ∙ ap (λ (x : List (List ℕ)). joined F (joined x (drop (j + 1) (F ++ (M ++ B))))) mid
    ∙ ap (λ (x : List (List ℕ)). joined F (joined M x)) back

flat_around : (F M B : List (List ℕ)) → flat (joined F (joined M B)) ≡ flat (F ++ (M ++ B))
flat_around F M B =
    flat-joined F (joined M B) ∙ ap (λ (x : List ℕ). flat F ++ x) (flat-joined M B ∙ sym (flat-append M B)) ∙ sym (flat-append F (M ++ B))

weight_around : (F : List (List ℕ)) (m : List ℕ) (M B : List (List ℕ)) → weight (joined F (joined (m ∷ M) B)) ≤ weight (F ++ (m ∷ (M ++ B)))
weight_around F m M B =
    let inner : weight (joined (m ∷ M) B) ≤ weight (m ∷ (M ++ B)) + 0 = omega (arith, weight-joined (m ∷ M) B) in
    omega (arith, weight-joined F (joined (m ∷ M) B), weight_behind F (m ∷ (M ++ B)) (joined (m ∷ M) B) 0 (omega arith) (some_joined m M B) inner)

-- a full block split in two
split_within : (F : List (List ℕ)) (b : List ℕ) (B : List (List ℕ)) (at number : ℕ) → AreShaped (F ++ b ∷ B) → at ≤ length b → length b ≡ 255
    → Becomes (F ++ b ∷ B) (joined F (joined (take 128 (insert b at number) ∷ (drop 128 (insert b at number) ∷ [])) B)) (insert (flat (F ++ b ∷ B)) (length (flat F) + at) number) 1
split_within F b B at number shaped le full =
    let w : length (insert b at number) ≡ length b + 1 = length-insert b at number le in
    let l : length (take 128 (insert b at number)) ≡ 128 = length-take-le 128 (insert b at number) (omega (arith, w, full)) in
    let r : length (drop 128 (insert b at number)) ≡ 128 = omega (arith, length-drop 128 (insert b at number), w, full) in
    let two : AreShaped (take 128 (insert b at number) ∷ (drop 128 (insert b at number) ∷ [])) = (omega (arith, l), omega (arith, l), omega (arith, l, r), (omega (arith, r), omega (arith, r))) in
    let same : take 128 (insert b at number) ++ (drop 128 (insert b at number) ++ flat B) ≡ insert b at number ++ flat B =
    sym (append_assoc (take 128 (insert b at number)) (drop 128 (insert b at number)) (flat B)) ∙ ap (λ (x : List ℕ). x ++ flat B) (take-append-drop 128 (insert b at number)) in
    record {
      numbers_are =
          flat_around F (take 128 (insert b at number) ∷ (drop 128 (insert b at number) ∷ [])) B
          ∙ flat-append F (take 128 (insert b at number) ∷ (drop 128 (insert b at number) ∷ B))
          ∙ ap (λ (x : List ℕ). flat F ++ x) same
          ∙ sym (flat-append F (insert b at number ∷ B))
          ∙ flat_put F b B at number le;
      shaped = shaped_joined F (joined (take 128 (insert b at number) ∷ (drop 128 (insert b at number) ∷ [])) B) (shaped_front F (b ∷ B) shaped)
          (shaped_joined (take 128 (insert b at number) ∷ (drop 128 (insert b at number) ∷ [])) B two (shaped_behind (b ∷ []) B (shaped_behind F (b ∷ B) shaped)));
      weight_is =
          omega (
            arith,
            weight_around F (take 128 (insert b at number)) (drop 128 (insert b at number) ∷ []) B,
            weight_behind F (b ∷ B) (take 128 (insert b at number) ∷ (drop 128 (insert b at number) ∷ B)) 1 (omega arith) (omega arith) (weight_split b (take 128 (insert b at number)) (drop 128 (insert b at number)) B full l r),
          );
    }

pub becomes_split : (bs : List (List ℕ)) (i at number : ℕ) (mid now : List (List ℕ)) → AreShaped bs → i < length bs → at ≤ 255 → length (block_at bs i) ≡ 255
    → mid ≡ take i bs ++ take 128 (insert (block_at bs i) at number) ∷ (drop 128 (insert (block_at bs i) at number) ∷ drop (i + 1) bs)
    → now ≡ joined (take i mid) (joined (drop i (take (i + 1 + 1) mid)) (drop (i + 1 + 1) mid))
    → Becomes bs now (insert (flat bs) (length (flat (take i bs)) + at) number) 1
becomes_split bs i at number mid now shaped lt le full is then =
    let f : length (take i bs) ≡ i = there_front bs i lt in
    let e : now ≡ joined (take i bs) (joined (take 128 (insert (block_at bs i) at number) ∷ (drop 128 (insert (block_at bs i) at number) ∷ [])) (drop (i + 1) bs)) =
    then ∙ ap (λ (xs : List (List ℕ)). joined (take i xs) (joined (drop i (take (i + 1 + 1) xs)) (drop (i + 1 + 1) xs))) is
    ∙ join_parts (take i bs) (take 128 (insert (block_at bs i) at number) ∷ (drop 128 (insert (block_at bs i) at number) ∷ [])) (drop (i + 1) bs) i (i + 1) f
    (length-append (take i bs) (take 128 (insert (block_at bs i) at number) ∷ (drop 128 (insert (block_at bs i) at number) ∷ [])) ∙ omega (arith, f)) in
    subst (λ (ys : List (List ℕ)). Becomes bs ys (insert (flat bs) (length (flat (take i bs)) + at) number) 1) (sym e)
    (becomes_whole bs i lt _ (λ all. insert all (length (flat (take i bs)) + at) number) 1
    (split_within (take i bs) (block_at bs i) (drop (i + 1) bs) at number (shaped_parts bs i lt shaped) (omega (arith, le, full)) full))

-- ---- a new last block

pub becomes_first : (bs now : List (List ℕ)) (number : ℕ) (i at : ℕ) → length bs ≡ 0 → at ≤ length (block_at bs i) → now ≡ bs ++ (number ∷ []) ∷ []
    → Becomes bs now (insert (flat bs) (length (flat (take i bs)) + at) number) 1
becomes_first [] now number i at none le is =
    let e : 0 ≡ length (flat (take i [])) + at = omega (arith, le, ap (λ (x : List (List ℕ)). length (flat x)) (take_all i [] (omega arith))) in
    subst (λ (ys : List (List ℕ)). Becomes [] ys (insert [] (length (flat (take i [])) + at) number) 1) (sym is)
    (record { numbers_are = ap (λ (n : ℕ). insert [] n number) e; shaped = (omega arith, omega arith); weight_is = omega arith })
becomes_first (b ∷ bs) now number i at none le is = absurd (omega (arith, none))

next_within : (F : List (List ℕ)) (b : List ℕ) (number : ℕ) → AreShaped (F ++ b ∷ []) → length b ≡ 255
    → Becomes (F ++ b ∷ []) (F ++ b ∷ ((number ∷ []) ∷ [])) (insert (flat (F ++ b ∷ [])) (length (flat F) + 255) number) 1
next_within F b number shaped full =
    let n : length (flat (F ++ b ∷ [])) ≡ length (flat F) + 255 =
    ap length (flat-append F (b ∷ [])) ∙ length-append (flat F) (b ++ []) ∙ omega (arith, length-append b [], full) in
    let e : flat (F ++ b ∷ ((number ∷ []) ∷ [])) ≡ flat (F ++ b ∷ []) ++ number ∷ [] =
    flat-append F (b ∷ ((number ∷ []) ∷ [])) ∙ ap (λ (x : List ℕ). flat F ++ (x ++ number ∷ [])) (sym (append-nil b)) ∙ sym (append_assoc (flat F) (b ++ []) (number ∷ []))
    ∙ ap (λ (x : List ℕ). x ++ number ∷ []) (sym (flat-append F (b ∷ []))) in
    record {
      numbers_are = e ∙ sym (insert_end (flat (F ++ b ∷ [])) number) ∙ ap (λ (i : ℕ). insert (flat (F ++ b ∷ [])) i number) n;
      shaped = shaped_next F b number full shaped;
      weight_is = weight_behind F (b ∷ []) (b ∷ ((number ∷ []) ∷ [])) 1 (omega arith) (omega arith) (weight_next b (number ∷ []) full refl);
    }

pub becomes_next : (bs now : List (List ℕ)) (number i at : ℕ) → AreShaped bs → i + 1 ≡ length bs → at ≡ 255 → at ≤ length (block_at bs i) → length (block_at bs i) ≤ 255 → now ≡ bs ++ (number ∷ []) ∷ []
    → Becomes bs now (insert (flat bs) (length (flat (take i bs)) + at) number) 1
becomes_next bs now number i at shaped last full le few is =
    let lt : i < length bs = omega (arith, last) in
    let none : drop (i + 1) bs ≡ [] = drop_all (i + 1) bs (omega (arith, last)) in
    let b_full : length (block_at bs i) ≡ 255 = omega (arith, full, le, few) in
    let e : bs ≡ take i bs ++ block_at bs i ∷ [] = parts bs i lt ∙ ap (λ (x : List (List ℕ)). take i bs ++ block_at bs i ∷ x) none in
    let f : now ≡ take i bs ++ block_at bs i ∷ ((number ∷ []) ∷ []) = is ∙ ap (λ (x : List (List ℕ)). x ++ (number ∷ []) ∷ []) e ∙ append_assoc (take i bs) (block_at bs i ∷ []) ((number ∷ []) ∷ []) in
    let whole : Becomes (take i bs ++ block_at bs i ∷ []) (take i bs ++ block_at bs i ∷ ((number ∷ []) ∷ [])) (insert (flat (take i bs ++ block_at bs i ∷ [])) (length (flat (take i bs)) + 255) number) 1 =
    next_within (take i bs) (block_at bs i) number (subst AreShaped e shaped) b_full in
    let again : Becomes bs (take i bs ++ block_at bs i ∷ ((number ∷ []) ∷ [])) (insert (flat bs) (length (flat (take i bs)) + 255) number) 1 =
    subst (λ (xs : List (List ℕ)). Becomes xs (take i bs ++ block_at bs i ∷ ((number ∷ []) ∷ [])) (insert (flat xs) (length (flat (take i bs)) + 255) number) 1) (sym e) whole in
    subst (λ (ys : List (List ℕ)). Becomes bs ys (insert (flat bs) (length (flat (take i bs)) + at) number) 1) (sym f)
    (subst (λ (n : ℕ). Becomes bs (take i bs ++ block_at bs i ∷ ((number ∷ []) ∷ [])) (insert (flat bs) (length (flat (take i bs)) + n) number) 1) (sym full) again)

-- ---- a number taken out

taken_within : (F : List (List ℕ)) (b m : List ℕ) (B : List (List ℕ)) (at : ℕ) → AreShaped (F ++ b ∷ B) → at < length b → m ≡ remove b at → 1 ≤ length m
    → Becomes (F ++ b ∷ B) (joined F (joined (m ∷ []) B)) (remove (flat (F ++ b ∷ B)) (length (flat F) + at)) 0
taken_within F b m B at shaped lt is some =
    let n : length (remove b at) + 1 ≡ length b = length-remove b at lt in
    let less : length m ≤ length b = omega (arith, ap length is, n) in
    let here : AreShaped (b ∷ B) = shaped_behind F (b ∷ B) shaped in
    let few : AreShaped (b ∷ []) = shaped_front (b ∷ []) B here in
    let alone : AreShaped (m ∷ []) = (some, omega (arith, less, few.1)) in
    record {
      numbers_are = flat_around F (m ∷ []) B ∙ ap (λ (x : List ℕ). flat (F ++ x ∷ B)) is ∙ flat_taken F b B at lt;
      shaped = shaped_joined F (joined (m ∷ []) B) (shaped_front F (b ∷ B) shaped) (shaped_joined (m ∷ []) B alone (shaped_behind (b ∷ []) B here));
      weight_is = omega (arith, weight_around F m [] B, weight_behind F (b ∷ B) (m ∷ B) 0 (omega arith) (omega arith) (omega (arith, weight_taken b m B less)));
    }

pub becomes_taken : (bs : List (List ℕ)) (i at : ℕ) (b m : List ℕ) (now : List (List ℕ)) → AreShaped bs → i < length bs → at < length (block_at bs i) → b ≡ get_or bs i b → m ≡ remove b at → 1 ≤ length m
    → now ≡ joined (take i (set bs i m)) (joined (drop i (take (i + 1) (set bs i m))) (drop (i + 1) (set bs i m)))
    → Becomes bs now (remove (flat bs) (length (flat (take i bs)) + at)) 0
becomes_taken bs i at b m now shaped lt at_lt read is some then =
    let f : length (take i bs) ≡ i = there_front bs i lt in
    let e : b ≡ block_at bs i = get_or_read bs i b lt read [] in
    let taken : m ≡ remove (block_at bs i) at = is ∙ ap (λ (x : List ℕ). remove x at) e in
    let g : now ≡ joined (take i bs) (joined (m ∷ []) (drop (i + 1) bs)) =
    then ∙ ap (λ (xs : List (List ℕ)). joined (take i xs) (joined (drop i (take (i + 1) xs)) (drop (i + 1) xs))) (set_parts bs i m lt)
    ∙ join_parts (take i bs) (m ∷ []) (drop (i + 1) bs) i i f (length-append (take i bs) (m ∷ []) ∙ omega (arith, f)) in
    subst (λ (ys : List (List ℕ)). Becomes bs ys (remove (flat bs) (length (flat (take i bs)) + at)) 0) (sym g)
    (becomes_whole bs i lt _ (λ all. remove all (length (flat (take i bs)) + at)) 0
    (taken_within (take i bs) (block_at bs i) m (drop (i + 1) bs) at (shaped_parts bs i lt shaped) at_lt taken some))

-- the only number of a block, whose neighbours are full

shaped_without : (F : List (List ℕ)) (b : List ℕ) (B : List (List ℕ)) → AreShaped (F ++ b ∷ B) → length b ≡ 1 → AreShaped (F ++ B)
shaped_without [] b B s e = shaped_behind (b ∷ []) B s
shaped_without (f ∷ []) b [] s e = (s.0, s.1)
shaped_without (f ∷ []) b (c ∷ B) s e = (s.0, s.1, omega (arith, s.2, (s.3).2, e), (s.3).3)
shaped_without (f ∷ (g ∷ F)) b B s e = (s.0, s.1, s.2, shaped_without (g ∷ F) b B s.3 e)

weight_without : (F : List (List ℕ)) (b : List ℕ) (B : List (List ℕ)) → length b ≡ 1 → weight (F ++ B) ≤ weight (F ++ b ∷ B)
weight_without [] b [] e = omega (arith, e)
weight_without [] b (c ∷ B) e = omega arith
weight_without (f ∷ []) b [] e = omega (arith, e)
weight_without (f ∷ []) b (c ∷ B) e = omega arith
weight_without (f ∷ (g ∷ F)) b B e = omega (arith, weight_without (g ∷ F) b B e)

emptied_within : (F : List (List ℕ)) (b : List ℕ) (B : List (List ℕ)) (at : ℕ) → AreShaped (F ++ b ∷ B) → at < length b → remove b at ≡ []
    → Becomes (F ++ b ∷ B) (F ++ B) (remove (flat (F ++ b ∷ B)) (length (flat F) + at)) 0
emptied_within F b B at shaped lt is =
    let n : length (remove b at) + 1 ≡ length b = length-remove b at lt in
    let e : length b ≡ 1 = omega (arith, n, ap length is) in
    record {
      numbers_are = flat-append F B ∙ sym (flat-append F ([] ∷ B)) ∙ ap (λ (x : List ℕ). flat (F ++ x ∷ B)) (sym is) ∙ flat_taken F b B at lt;
      shaped = shaped_without F b B shaped e;
      weight_is = omega (arith, weight_without F b B e);
    }

pub becomes_emptied : (bs : List (List ℕ)) (i at : ℕ) (b m : List ℕ) (now : List (List ℕ)) → AreShaped bs → i < length bs → at < length (block_at bs i) → b ≡ get_or bs i b → m ≡ remove b at → m ≡ []
    → now ≡ remove (set bs i m) i → Becomes bs now (remove (flat bs) (length (flat (take i bs)) + at)) 0
becomes_emptied bs i at b m now shaped lt at_lt read is none then =
    let f : length (take i bs) ≡ i = there_front bs i lt in
    let e : b ≡ block_at bs i = get_or_read bs i b lt read [] in
    let taken : remove (block_at bs i) at ≡ [] = ap (λ (x : List ℕ). remove x at) (sym e) ∙ sym is ∙ none in
    let parts_are : set bs i m ≡ take i bs ++ m ∷ drop (i + 1) bs = set_parts bs i m lt in
    let front : take i (set bs i m) ≡ take i bs = ap (λ (x : List (List ℕ)). take i x) parts_are ∙ take_at (take i bs) (m ∷ drop (i + 1) bs) i f in
    let whole : take i bs ++ m ∷ drop (i + 1) bs ≡ (take i bs ++ m ∷ []) ++ drop (i + 1) bs = sym (append_assoc (take i bs) (m ∷ []) (drop (i + 1) bs)) in
    let n : length (take i bs ++ m ∷ []) ≡ suc i = length-append (take i bs) (m ∷ []) ∙ omega (arith, f) in
    let behind : drop (suc i) (set bs i m) ≡ drop (i + 1) bs = ap (λ (x : List (List ℕ)). drop (suc i) x) (parts_are ∙ whole) ∙ drop_at (take i bs ++ m ∷ []) (drop (i + 1) bs) (suc i) n in
    let g : now ≡ take i bs ++ drop (i + 1) bs =
    then ∙ ap (λ (x : List (List ℕ)). x ++ drop (suc i) (set bs i m)) front ∙ ap (λ (x : List (List ℕ)). take i bs ++ x) behind in
    subst (λ (ys : List (List ℕ)). Becomes bs ys (remove (flat bs) (length (flat (take i bs)) + at)) 0) (sym g)
    (becomes_whole bs i lt _ (λ all. remove all (length (flat (take i bs)) + at)) 0
    (emptied_within (take i bs) (block_at bs i) (drop (i + 1) bs) at (shaped_parts bs i lt shaped) at_lt taken))

-- the number that is taken out
pub number_is : (bs : List (List ℕ)) (i at number : ℕ) (b : List ℕ) → i < length bs → at < length (block_at bs i) → b ≡ get_or bs i b → number ≡ slice_index b at
    → slice_get (flat bs) (length (flat (take i bs)) + at) ≡ Some number
number_is bs i at number b lt at_lt read is =
    let e : b ≡ block_at bs i = get_or_read bs i b lt read [] in
    let whole : flat bs ≡ flat (take i bs) ++ (block_at bs i ++ flat (drop (i + 1) bs)) = ap flat (parts bs i lt) ∙ flat-append (take i bs) (block_at bs i ∷ drop (i + 1) bs) in
    let within : length (flat (take i bs)) + at < length (flat bs) =
    omega (arith, ap length whole, length-append (flat (take i bs)) (block_at bs i ++ flat (drop (i + 1) bs)), length-append (block_at bs i) (flat (drop (i + 1) bs)), at_lt) in
    let here : get_or (flat bs) (length (flat (take i bs)) + at) 0 ≡ number =
    ap (λ (all : List ℕ). get_or all (length (flat (take i bs)) + at) 0) whole
    ∙ get_or-append-add (flat (take i bs)) (block_at bs i ++ flat (drop (i + 1) bs)) at 0
    ∙ get_or_append_left (block_at bs i) (flat (drop (i + 1) bs)) 0 at at_lt
    ∙ ap (λ (x : List ℕ). get_or x at 0) (sym e) ∙ sym is in
    slice_get-get_or (flat bs) (length (flat (take i bs)) + at) 0 within ∙ ap (λ (n : ℕ). Some n) here

-- what was written at a place is read there
pub written : (bs : List (List ℕ)) (i : ℕ) (m k : List ℕ) → i < length bs → k ≡ get_or (set bs i m) i k → k ≡ m
written bs i m k lt read = read ∙ get_or-set_same bs i m k lt

pub there : (bs : List (List ℕ)) (i at : ℕ) → at < length (block_at bs i) → i < length bs
there [] i at lt = absurd (omega (arith, lt))
there (b ∷ bs) zero at lt = omega arith
there (b ∷ bs) (suc i) at lt = omega (arith, there bs i at lt)

-- where there is no block, or a full one, room is a spare block
pub spare_for_none : (bs : List (List ℕ)) (s : ℕ) → length bs ≡ 0 → 0 < room (record { blocks = bs; spares = s }) → 0 < s
spare_for_none [] s none some = spare_where_none s some
spare_for_none (b ∷ bs) s none some = absurd (omega (arith, none))

pub spare_for_full : (bs : List (List ℕ)) (i s : ℕ) → AreShaped bs → i < length bs → length (block_at bs i) ≡ 255 → 0 < room (record { blocks = bs; spares = s }) → 0 < s
spare_for_full bs i s shaped lt full some =
    spare_where_full (take i bs) (block_at bs i) (drop (i + 1) bs) s (subst AreShaped (parts bs i lt) shaped) full
    (subst (λ (xs : List (List ℕ)). 0 < room (record { blocks = xs; spares = s })) (parts bs i lt) some)
