-- What a backup leaves is of the streams, or there is a collision.
use Rattle.std.proofs.Common.{◌≡◌, ◌⊎◌, true, List, ◌++◌, sym, subst, inl, inr}
use Rattle.std.specs.List.{All}
use Rattle.ss_base.specs.declared.profile.Profile.{Profile}
use Rattle.ss_base.specs.Profile.{numbers_of}
use Rattle.ss_base.proofs.SoundLaws.{AreSound-numbers_of}
use Rattle.journal_entry.specs.declared.entry.Entry.{Entry}
use Rattle.journal_entry.specs.Bounds.{IsEntry}
use Rattle.history.specs.declared.rules.Rules.{Rules}
use Rattle.history.specs.Legal.{is_legal}
use Rattle.stored_streams.specs.Streams.{Streams}
use Rattle.stored_streams.specs.OfStreams.{HasContents, HasStored, IsOfStreams}
use Rattle.stored_streams.specs.Reads.{Reads, IsGiven}
use Rattle.stored_streams.specs.Collision.{Collide}
use Rattle.stored_streams.proofs.LoadLaws.{stores_loaded}
use Rattle.backed_up_streams.specs.Loaded.{HasLoaded}

module _ (profile : Profile) (streams : Streams) (rules : Rules) (reads : List Reads) (older past : List Entry) (legal : is_legal rules past ≡ true) (entries : All IsEntry past) (was : IsOfStreams (numbers_of profile) streams older) (contents : HasContents (numbers_of profile) streams past) where
  of_stored : HasStored (numbers_of profile) streams past ⊎ Collide (numbers_of profile) streams past (IsGiven reads past) → IsOfStreams (numbers_of profile) streams past ⊎ Collide (numbers_of profile) streams past (IsGiven reads past)
  of_stored (inl stored) = inl (record { contents = contents; stored = stored })
  of_stored (inr collides) = inr collides

  pub loaded-of_streams : HasLoaded (numbers_of profile) streams reads older past → IsOfStreams (numbers_of profile) streams past ⊎ Collide (numbers_of profile) streams past (IsGiven reads past)
  loaded-of_streams loaded =
      let n = numbers_of profile in
      let whole = loaded.newer ++ older in
      of_stored
      (subst (λ (p : List Entry). HasStored n streams p ⊎ Collide n streams p (IsGiven reads past)) (sym loaded.past_is)
      (stores_loaded n streams rules loaded.loads (IsGiven reads past) loaded.newer older (AreSound-numbers_of profile)
      (subst (λ (p : List Entry). is_legal rules p ≡ true) loaded.past_is legal)
      (subst (λ (p : List Entry). All IsEntry p) loaded.past_is entries)
      was
      (subst (λ (p : List Entry). HasContents n streams p) loaded.past_is contents)
      loaded.stores))
