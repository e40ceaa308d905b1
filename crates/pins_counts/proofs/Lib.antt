mod FactLaws
mod LoopLaws
mod WalkLaws
mod AscendingLaws
mod AwaitingLaws
