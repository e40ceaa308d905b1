pub mod FaultLaws
pub mod BytesLaws
pub mod ObjectLaws
mod ObjectMapLaws
pub mod ShelfLaws
mod RecordLaws
