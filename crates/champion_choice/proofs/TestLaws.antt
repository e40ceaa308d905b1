-- That the lists of a test may be handed in.
use Rattle.std.proofs.Common.{◌≡◌, ℕ, ◌+◌, ◌<◌, Bool, true, false, eqb, ◌&&◌, List, [], length, take, get_or, sym, ap, ◌∙◌, subst, inl, inr, eqb-true}
use Rattle.std.specs.Cmp.{IsEquivalence}
use Rattle.std.specs.List.{All, IsDistinct, list_all}
use Rattle.std.proofs.lemmas.Bool.{cases_Bool, and_parts, eq-eqb}
use Rattle.std.proofs.lemmas.List.{take_more}
use Rattle.std.proofs.lemmas.List.Elements.{All-append, All-contains, All-more, All-nil}
use Rattle.std.proofs.lemmas.Map.Keys.{IsDistinct-push}
use Rattle.ss_base.specs.declared.ids.Standing.{Standing}
use Rattle.ss_base.specs.Ids.{same_manifest}
use Rattle.ss_base.specs.Champions.{stands_in, candidates}
use Rattle.ss_base.proofs.IdLaws.{same_manifest-self, same_manifest-true}
use Rattle.ss_base.proofs.MemberLaws.{All-from_in, all_in}
use Rattle.champion_choice.specs.Scores.{StandsOnce}
use Rattle.champion_choice.specs.Lists.{StampsTell}
use Rattle.champion_choice.proofs.PlaceLaws.{apart_back}
use Rattle.champion_choice.proofs.ListLaws.{candidates_more}

-- whether the manifest is the one of the session with the number of its stamp
abbrev pub has_own_stamp : Standing → Bool
has_own_stamp s = (eqb s.id.session s.stamp) && (eqb s.id.seq 0)

same_ids : IsEquivalence (λ (a b : Standing). same_manifest a.id b.id)
same_ids = record {
  refl = λ x. same_manifest-self x.id;
  symm = λ x y. elim (cases_Bool (same_manifest x.id y.id)) [
    | inl same ↦ same ∙ sym (subst (λ q. same_manifest q x.id ≡ true) (same_manifest-true x.id y.id same) (same_manifest-self x.id))
    | inr apart ↦ apart ∙ sym (apart_back x.id y.id apart)
  ];
  congr = λ x y z same. ap (λ q. same_manifest q z.id) (same_manifest-true x.id y.id same);
}

pub once_none : StandsOnce []
unfolding IsDistinct
once_none = tt

pub once_more : (stood : List Standing) (i : ℕ) (d : Standing) → i < length stood → StandsOnce (take i stood) → stands_in (get_or stood i d).id (take i stood) ≡ false → StandsOnce (take (i + 1) stood)
unfolding stands_in
once_more stood i d below once fresh = subst StandsOnce (sym (take_more stood i d below)) (IsDistinct-push same_ids (take i stood) (get_or stood i d) once fresh)

-- the lists so far
pub record AreChoosable (lists : List (List Standing)) : Type 0 where
  pub once : All StandsOnce lists
  pub own : All (λ s. has_own_stamp s ≡ true) (candidates lists)

pub choosable_none : AreChoosable []
unfolding candidates
choosable_none = record { once = All-nil StandsOnce; own = All-nil (λ s. has_own_stamp s ≡ true) }

pub choosable_more : (lists : List (List Standing)) (i : ℕ) (d : List Standing) → i < length lists → AreChoosable (take i lists) → StandsOnce (get_or lists i d) → list_all has_own_stamp (get_or lists i d) ≡ true → AreChoosable (take (i + 1) lists)
choosable_more lists i d below so once own = record {
  once = All-more StandsOnce lists i d below so.once once;
  own = subst (λ xs. All (λ s. has_own_stamp s ≡ true) xs) (sym (candidates_more lists i d below))
      (All-append (λ s. has_own_stamp s ≡ true) (candidates (take i lists)) (get_or lists i d) so.own
      (All-from_in (λ s. has_own_stamp s ≡ true) (get_or lists i d) (λ s h. all_in has_own_stamp s (get_or lists i d) h own)));
}

one_test : (a b c : Bool) → b ≡ true → a ≡ c → (a && b) ≡ c
one_test true b c is same = is ∙ same
one_test false b c is same = same

pub stamps_tell : (lists : List (List Standing)) → AreChoosable lists → StampsTell lists
stamps_tell lists so a b ha hb =
    let p = and_parts (eqb a.id.session a.stamp) (eqb a.id.seq 0) (All-contains (λ s. has_own_stamp s ≡ true) (candidates lists) a so.own ha) in
    let q = and_parts (eqb b.id.session b.stamp) (eqb b.id.seq 0) (All-contains (λ s. has_own_stamp s ≡ true) (candidates lists) b so.own hb) in
    one_test (eqb a.id.session b.id.session) (eqb a.id.seq b.id.seq) (eqb a.stamp b.stamp)
    (eq-eqb a.id.seq b.id.seq (eqb-true a.id.seq 0 p.1 ∙ sym (eqb-true b.id.seq 0 q.1)))
    (λ j. eqb (eqb-true a.id.session a.stamp p.0 j) (eqb-true b.id.session b.stamp q.0 j))
