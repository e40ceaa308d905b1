-- What a run that ends early printed.
use Rattle.std.proofs.Common.{◌≡◌, ℕ, List, ◌++◌, sym, ◌∙◌, refl, subst, append_assoc}
use Rattle.outside.specs.Faults.{Rose}
use Rattle.outside.specs.Views.{SinkView, Takes, TakesFront}
use Rattle.outside.proofs.BytesLaws.{Appends-then, AppendsFront-then}
use Rattle.store_run.specs.declared.stop.Stop.{Stop}
use Rattle.store_run.specs.Stop.{fault_line}
use Rattle.store_run.specs.Run.{Refuses, told, sink_failed, memory_wanted}

-- lines that were printed before stand before it
pub refuses-behind : (why : Stop) (first waiting : List ℕ) (sink sink' sink'' : SinkView) (status : ℕ) → Takes sink sink' first → sink'.faults ≡ sink.faults
    → Refuses why waiting sink' sink'' status → Refuses why (first ++ waiting) sink sink'' status
refuses-behind why first waiting sink sink' sink'' status before same (told is whole count) =
    told is
    (subst (λ (l : List ℕ). Takes sink sink'' l) (sym (append_assoc first waiting (fault_line why)))
    (Appends-then sink.written sink'.written sink''.written first (waiting ++ fault_line why) before whole))
    (count ∙ same)
refuses-behind why first waiting sink sink' sink'' status before same (sink_failed is front rose) =
    sink_failed is
    (subst (λ (l : List ℕ). TakesFront sink sink'' l) (sym (append_assoc first waiting (fault_line why)))
    (AppendsFront-then sink.written sink'.written sink''.written (first ++ (waiting ++ fault_line why)) first (waiting ++ fault_line why) refl before front))
    (subst (λ n. Rose n sink''.faults) same rose)
refuses-behind why first waiting sink sink' sink'' status before same (memory_wanted is front count) =
    memory_wanted is
    (subst (λ (l : List ℕ). TakesFront sink sink'' l) (sym (append_assoc first waiting (fault_line why)))
    (AppendsFront-then sink.written sink'.written sink''.written (first ++ (waiting ++ fault_line why)) first (waiting ++ fault_line why) refl before front))
    (count ∙ same)
