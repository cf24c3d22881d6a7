pub mod DescriptionLaws
