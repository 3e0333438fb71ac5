mod Closing
mod Fields
mod Fill
mod Results
mod ToldLaws
mod Worked
