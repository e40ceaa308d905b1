pub mod TextLaws
pub mod ScanLaws
pub mod LayoutLaws
pub mod PutsLaws
pub mod PlanLaws
pub mod ContainerLaws
