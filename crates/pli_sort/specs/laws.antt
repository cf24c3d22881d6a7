pub mod SortingLaws
